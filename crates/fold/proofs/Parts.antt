-- A net that was drawn, and was given the arcs of its first transitions.
use Rattle.std.proofs.Common.{◌≡◌, ℕ, ◌+◌, ◌^◌, ◌<◌, ◌≤◌, false, eqb, ltb, leb, is_ok, Ok, Err, sym, refl, ap, ◌∙◌, subst, ⊎_elim, arith}
use Rattle.std.proofs.lemmas.Bool.{both_ways, cases_eq, cases_lt, cond-true, cond-false, eq-eqb, ne_eqb, le-ltb, lt-leb}
use Rattle.refusal.specs.Outcomes.{Outcome, refuse_if}
use Rattle.refusal.specs.declared.Refusal.TheVariants.{TooManyPlaces, TooManyTransitions, MarkOutside}
use Rattle.net.specs.Drawings.{without_arcs, with_arcs, draw_outcome, Becomes}
use Rattle.net.specs.Nets.{PetriNet, Kept, drawn}
use Rattle.net.specs.declared.net.Net.{Net}
use Rattle.net.proofs.Drawn.{same_drawn}

-- the second net is the first, but for the arcs from transition k on, which it has not
pub record Replaced-below (n : PetriNet) (k : ℕ) (n' : PetriNet) : Type 0 where
  pub places : n'.places ≡ n.places
  pub transitions : n'.transitions ≡ n.transitions
  pub marks : n'.marks ≡ n.marks
  pub before : (t : ℕ) → t < k → (n'.takes t ≡ n.takes t) × (n'.gives t ≡ n.gives t)
  pub from : (t : ℕ) → k ≤ t → (n'.takes t ≡ 0) × (n'.gives t ≡ 0)

draw_accepted : (places transitions marks : ℕ) → places ≤ 64 → transitions ≤ 64 → marks < 2 ^ places → draw_outcome places transitions marks ≡ Ok tt
draw_accepted places transitions marks p t m =
    ap (λ b. refuse_if b TooManyPlaces (refuse_if (ltb 64 transitions) TooManyTransitions (refuse_if (leb (2 ^ places) marks) MarkOutside (Ok tt)))) (le-ltb 64 places p)
    ∙ ap (λ b. refuse_if b TooManyTransitions (refuse_if (leb (2 ^ places) marks) MarkOutside (Ok tt))) (le-ltb 64 transitions t)
    ∙ ap (λ b. refuse_if b MarkOutside (Ok tt)) (lt-leb (2 ^ places) marks m)

pub accepted_becomes : (old : Net) (asked : PetriNet) (r : Outcome) (new : Net) → r ≡ Ok tt → Becomes old asked r new → drawn new ≡ asked
accepted_becomes old asked (Ok x) new e h = h
accepted_becomes old asked (Err why) new e h = absurd (both_ways false refl (ap is_ok e))

-- a net that was just drawn has the arcs of no transition
pub part_none : (n : PetriNet) (old new : Net) (places transitions marks : ℕ) (r : Outcome) → Kept n → n.places ≤ 64 → n.transitions ≤ 64
    → places ≡ n.places → transitions ≡ n.transitions → marks ≡ n.marks
    → r ≡ draw_outcome places transitions marks → Becomes old (without_arcs places transitions marks) r new → Replaced-below n 0 (drawn new)
part_none n old new places transitions marks r kept p t ps ts ms e h =
    let inside = kept.marked in
    let accepted = e ∙ draw_accepted places transitions marks (omega arith) (omega arith) (subst (λ k. marks < 2 ^ k) (sym ps) (omega arith)) in
    let is = accepted_becomes old (without_arcs places transitions marks) r new accepted h in
    subst (Replaced-below n 0) (sym is) (record {
      places = ps;
      transitions = ts;
      marks = ms;
      before = λ u lt. absurd (omega arith);
      from = λ u le. (refl, refl);
    })

-- the arcs of one transition more
pub part_more : (n : PetriNet) (k : ℕ) (n' n'' : PetriNet) → Replaced-below n k n' → n'' ≡ with_arcs n' k (n.takes k) (n.gives k) → Replaced-below n (k + 1) n''
part_more n k n' n'' part is = subst (Replaced-below n (k + 1)) (sym is) (record {
  places = part.places;
  transitions = part.transitions;
  marks = part.marks;
  before = λ t lt. ⊎_elim
      (λ e. let same = eq-eqb t k e in
      (cond-true (eqb t k) (n.takes k) (n'.takes t) same ∙ ap n.takes (sym e), cond-true (eqb t k) (n.gives k) (n'.gives t) same ∙ ap n.gives (sym e)))
      (λ ne. let other = ne_eqb t k ne in let old = part.before t (omega arith) in
      (cond-false (eqb t k) (n.takes k) (n'.takes t) other ∙ old.0, cond-false (eqb t k) (n.gives k) (n'.gives t) other ∙ old.1))
      (cases_eq t k);
  from = λ t le. let other = ne_eqb t k (λ e. omega arith) in let old = part.from t (omega arith) in
      (cond-false (eqb t k) (n.takes k) (n'.takes t) other ∙ old.0, cond-false (eqb t k) (n.gives k) (n'.gives t) other ∙ old.1);
})

-- a transition without arcs is passed over
pub part_idle : (n : PetriNet) (k : ℕ) (n' : PetriNet) → Replaced-below n k n' → n.takes k ≡ 0 → n.gives k ≡ 0 → Replaced-below n (k + 1) n'
part_idle n k n' part takes gives = record {
  places = part.places;
  transitions = part.transitions;
  marks = part.marks;
  before = λ t lt. ⊎_elim
      (λ e. let old = part.from t (omega arith) in (old.0 ∙ sym (ap n.takes e ∙ takes), old.1 ∙ sym (ap n.gives e ∙ gives)))
      (λ ne. part.before t (omega arith))
      (cases_eq t k);
  from = λ t le. part.from t (omega arith);
}

-- with the arcs of every transition it is the net
pub part_all : (n : PetriNet) (k : ℕ) (n' : PetriNet) → Kept n → k ≡ n.transitions → Replaced-below n k n' → n' ≡ n
part_all n k n' kept all part =
    same_drawn n' n part.places part.transitions part.marks (λ t. (each t).0) (λ t. (each t).1)
  where
    each : (t : ℕ) → (n'.takes t ≡ n.takes t) × (n'.gives t ≡ n.gives t)
    each t = ⊎_elim
        (λ lt. part.before t lt)
        (λ le. let none = part.from t le in let ended = kept.ended t (omega arith) in (none.0 ∙ sym ended.0, none.1 ∙ sym ended.1))
        (cases_lt t k)
