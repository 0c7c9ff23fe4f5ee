-- What is lit weighs what the marks weigh, plus the drift of each accepted fire, call by call.
use Rattle.std.proofs.Common.{◌≡◌, ℕ, ◌≤◌, Bool, true, false, cond, List, [], ◌∷◌, Ok, Err, Option, sym, refl, ap, ◌∙◌, subst}
use Rattle.refusal.specs.Outcomes.{Outcome}
use Rattle.net.specs.Nets.{PetriNet, Kept}
use Rattle.net.specs.Sets.{exchange}
use Rattle.net.proofs.Subsets.{difference_first}
use Rattle.board.specs.Rules.{Laid}
use Rattle.weight.specs.Additions.{Addition, CommutativeMonoid, Inverts}
use Rattle.weight.specs.Weights.{weight_of, drift_of, drift_of_all}
use Rattle.weight.proofs.Exchanges.{fire_adds_drift}
use Rattle.weight.proofs.Sums.{unit_right}
use Rattle.run.specs.Calls.{told, is_done}
use Rattle.run.specs.Firing.{fire_outcome}
use Rattle.run.specs.Log.{accepted_by, accepted}
use Rattle.run.specs.States.{State, Step, Chain}
use Rattle.run.specs.declared.calls.Call.{Call}
use Rattle.run.specs.declared.calls.Call.TheVariants.{Fire, Signal, Halt, Resume, Home, Read, Station, Weigh}
use Rattle.run.specs.declared.calls.Answer.{Answer}
use Rattle.run.specs.declared.calls.Answer.TheVariants.{Done, Absent}
use Rattle.run.specs.declared.calls.Entry.{Entry}
use Rattle.run.proofs.Accepts.{fire_accepted}

module _ {W : Type 0} (add : Addition W) (minus : W → W) (laws : CommutativeMonoid add) (inverts : Inverts add minus)
    {B : Type 0} (lit : B → ℕ) (closed : B → Option ℕ) (signalled : B → ℕ → ℕ → B → Type 0)
    (quiet : (b : B) (channel event : ℕ) (after : B) → signalled b channel event after → lit after ≡ lit b)
    (n : PetriNet) (kept : Kept n) (narrow : n.places ≤ 64) (strands : List ℕ) (weights ws : List W) where
  -- the board weighs what the marks weigh, plus the drifts of these fires
  abbrev Weighs : List ℕ → B → Type 0
  Weighs ts b = weight_of add (lit b) ws ≡ add.plus (weight_of add n.marks ws) (drift_of_all add minus n ws ts)

  same_weighs : (ts : List ℕ) (b b' : B) → lit b' ≡ lit b → Weighs ts b → Weighs ts b'
  same_weighs ts b b' e h = ap (λ l. weight_of add l ws) e ∙ h

  marks_weigh : (b : B) → lit b ≡ n.marks → Weighs [] b
  marks_weigh b e = ap (λ l. weight_of add l ws) e ∙ sym (unit_right add laws (weight_of add n.marks ws))

  -- a fire, by whether the run goes and by its outcome
  fire_weighs : (ts : List ℕ) (b b' : B) (t : ℕ) → Weighs ts b → (g : Bool) (o : Outcome) → fire_outcome n (lit b) (closed b) t ≡ o
      → cond (is_done {W = W} (cond g (told o) Absent)) (Laid lit closed (exchange (lit b) (n.takes t) (n.gives t)) b b') (b' ≡ b)
      → Weighs (accepted_by ts (Fire t) (cond g (told {W = W} o) Absent)) b'
  fire_weighs ts b b' t h true (Ok u) is laid =
      let ok = fire_accepted n kept narrow (lit b) (closed b) t is in
      ap (λ l. weight_of add l ws) laid.lines
      ∙ fire_adds_drift add minus laws inverts n t ok.there (lit b) ok.taken (λ p g s. ok.given p g (difference_first (lit b) (n.takes t) p s)) ws
      ∙ ap (λ x. add.plus x (drift_of add minus n ws t)) h
      ∙ laws.associative (weight_of add n.marks ws) (drift_of_all add minus n ws ts) (drift_of add minus n ws t)
  fire_weighs ts b b' t h true (Err why) is e = same_weighs ts b b' (ap lit e) h
  fire_weighs ts b b' t h false o is e = same_weighs ts b b' (ap lit e) h

  -- a home, by whether the run goes
  home_weighs : (ts : List ℕ) (b b' : B) → Weighs ts b → (g : Bool)
      → cond (is_done {W = W} (cond g Absent Done)) (Laid lit closed n.marks b b') (b' ≡ b)
      → Weighs (accepted_by ts Home (cond {A = Answer W} g Absent Done)) b'
  home_weighs ts b b' h true e = same_weighs ts b b' (ap lit e) h
  home_weighs ts b b' h false laid = marks_weigh b' laid.lines

  step_weighs : (ts : List ℕ) (st st' : State B) (call : Call) (a : Answer W) → Weighs ts st.board → Step lit closed signalled add n strands weights call a st st'
      → Weighs (accepted_by ts call a) st'.board
  step_weighs ts st st' (Fire t) a h step =
      subst (λ (x : Answer W). Weighs (accepted_by ts (Fire t) x) st'.board) (sym step.by_lines)
      (fire_weighs ts st.board st'.board t h st.going (fire_outcome n (lit st.board) (closed st.board) t) refl
      (subst (λ (x : Answer W). cond (is_done x) (Laid lit closed (exchange (lit st.board) (n.takes t) (n.gives t)) st.board st'.board) (st'.board ≡ st.board)) step.by_lines step.moved))
  step_weighs ts st st' Home a h step =
      subst (λ (x : Answer W). Weighs (accepted_by ts Home x) st'.board) (sym step.by_lines)
      (home_weighs ts st.board st'.board h st.going
      (subst (λ (x : Answer W). cond (is_done x) (Laid lit closed n.marks st.board st'.board) (st'.board ≡ st.board)) step.by_lines step.moved))
  step_weighs ts st st' (Signal channel event) a h step = same_weighs ts st.board st'.board (quiet st.board channel event st'.board step.moved) h
  step_weighs ts st st' Halt a h step = same_weighs ts st.board st'.board (ap lit step.moved) h
  step_weighs ts st st' Resume a h step = same_weighs ts st.board st'.board (ap lit step.moved) h
  step_weighs ts st st' (Read l) a h step = same_weighs ts st.board st'.board (ap lit step.moved) h
  step_weighs ts st st' (Station k) a h step = same_weighs ts st.board st'.board (ap lit step.moved) h
  step_weighs ts st st' Weigh a h step = same_weighs ts st.board st'.board (ap lit step.moved) h

  -- a whole log
  chain_weighs : (ts : List ℕ) (st : State B) (log : List (Entry W)) (st' : State B) → Weighs ts st.board → Chain lit closed signalled add n strands weights st log st'
      → Weighs (accepted ts log) st'.board
  chain_weighs ts st [] st' h e = same_weighs ts st.board st'.board (ap (λ (x : State B). lit x.board) (sym e)) h
  chain_weighs ts st (e ∷ es) st' h (m, step, rest) = chain_weighs (accepted_by ts e.call e.answer) m es st' (step_weighs ts st m e.call e.answer h step) rest

  -- from the marks
  pub weights_follow : (st : State B) (log : List (Entry W)) (st' : State B) → lit st.board ≡ n.marks → Chain lit closed signalled add n strands weights st log st'
      → Weighs (accepted [] log) st'.board
  weights_follow st log st' marked chain = chain_weighs [] st log st' (marks_weigh st.board marked) chain
