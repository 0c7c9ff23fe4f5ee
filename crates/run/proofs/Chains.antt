-- A chain of calls with one more, and a log with one more answer.
use Rattle.std.proofs.Common.{◌≡◌, ℕ, ◌<◌, List, [], ◌∷◌, ◌++◌, map, length, get_or, set, Option, sym, refl, ap, ◌∙◌, subst}
use Rattle.std.proofs.lemmas.List.{map-set, set-get_or, get_or-map}
use Rattle.net.specs.Nets.{PetriNet}
use Rattle.weight.specs.Additions.{Addition}
use Rattle.run.specs.Log.{calls}
use Rattle.run.specs.States.{State, Step, Chain}
use Rattle.run.specs.declared.calls.Call.{Call}
use Rattle.run.specs.declared.calls.Answer.{Answer}
use Rattle.run.specs.declared.calls.Entry.{Entry}

module _ {B W : Type 0} (lit : B → ℕ) (closed : B → Option ℕ) (signalled : B → ℕ → ℕ → B → Type 0) (add : Addition W) (n : PetriNet) (strands : List ℕ) (weights : List W) where
  pub chain_more : (s : State B) (es : List (Entry W)) (m : State B) (e : Entry W) (s' : State B)
      → Chain lit closed signalled add n strands weights s es m → Step lit closed signalled add n strands weights e.call e.answer m s'
      → Chain lit closed signalled add n strands weights s (es ++ e ∷ []) s'
  chain_more s [] m e s' c h = (s', subst (λ (x : State B). Step lit closed signalled add n strands weights e.call e.answer x s') (sym c) h, refl)
  chain_more s (x ∷ es) m e s' (k, first, rest) h = (k, first, chain_more k es m e s' rest h)

-- an answer that is written beside its call leaves the calls as they were
pub calls_set : {W : Type 0} (log : List (Entry W)) (i : ℕ) (d : Entry W) (a : Answer W) → i < length log → calls (set log i (record { call = (get_or log i d).call; answer = a })) ≡ calls log
calls_set {W} log i d a within =
    let call-of : Entry W → Call = λ e. e.call in
    map-set call-of log i (record { call = (get_or log i d).call; answer = a })
    ∙ ap (set (map call-of log) i) (sym (get_or-map call-of log i d d.call within)) ∙ set-get_or (map call-of log) i d.call
