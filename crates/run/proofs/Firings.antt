-- What a fire comes to, reason by reason.
use Rattle.std.proofs.Common.{◌≡◌, ℕ, ◌<◌, true, false, leb, Some, None, Ok, Err, Option, sym, refl, ap, ◌∙◌, subst, ap₂}
use Rattle.std.proofs.lemmas.Bool.{lt-leb}
use Rattle.refusal.specs.declared.Refusal.TheVariants.{NoSuchTransition, Unlit, Occupied, Shut}
use Rattle.refusal.specs.Outcomes.{refuse_at}
use Rattle.refusal.proofs.Outcomes.{refuse_passed}
use Rattle.net.specs.Lowest.{lowest_of}
use Rattle.net.specs.Nets.{PetriNet}
use Rattle.net.specs.Sets.{has, exchange}
use Rattle.board.specs.Rules.{Laid}
use Rattle.run.specs.Firing.{agrees, fire_outcome}

-- the net m that a run lends is its net n
module _ (m n : PetriNet) (held : m ≡ n) (lit : ℕ) (shut : Option ℕ) (t : ℕ) (there : t < m.transitions) (taken given : ℕ) (takes : taken ≡ m.takes t) (gives : given ≡ m.gives t) where
  -- by the lowest dark place that is taken, the lowest lit place that is given, and the channel
  outcome : (u o c : Option ℕ) → u ≡ lowest_of taken (λ p. agrees false (has lit p)) → o ≡ lowest_of given (λ p. agrees true (has lit p)) → shut ≡ c
      → refuse_at u Unlit (refuse_at o Occupied (refuse_at c Shut (Ok tt))) ≡ fire_outcome n lit shut t
  outcome u o c eu eo ec =
      ap₂ (λ x y. refuse_at x Unlit (refuse_at y Occupied (refuse_at c Shut (Ok tt)))) (eu ∙ ap (λ s. lowest_of s (λ p. agrees false (has lit p))) takes) (eo ∙ ap (λ s. lowest_of s (λ p. agrees true (has lit p))) gives)
      ∙ ap (λ x. refuse_at (lowest_of (m.takes t) (λ p. agrees false (has lit p))) Unlit (refuse_at (lowest_of (m.gives t) (λ p. agrees true (has lit p))) Occupied (refuse_at x Shut (Ok tt)))) (sym ec)
      ∙ sym (refuse_passed (leb m.transitions t) NoSuchTransition (refuse_at (lowest_of (m.takes t) (λ p. agrees false (has lit p))) Unlit (refuse_at (lowest_of (m.gives t) (λ p. agrees true (has lit p))) Occupied (refuse_at shut Shut (Ok tt)))) (lt-leb m.transitions t there))
      ∙ ap (λ (k : PetriNet). fire_outcome k lit shut t) held

  pub fire_unlit : (p : ℕ) → Some p ≡ lowest_of taken (λ q. agrees false (has lit q)) → Err (Unlit p) ≡ fire_outcome n lit shut t
  fire_unlit p e = outcome (Some p) (lowest_of given (λ q. agrees true (has lit q))) shut e refl refl

  pub fire_occupied : (p : ℕ) → None ≡ lowest_of taken (λ q. agrees false (has lit q)) → Some p ≡ lowest_of given (λ q. agrees true (has lit q)) → Err (Occupied p) ≡ fire_outcome n lit shut t
  fire_occupied p eu eo = outcome None (Some p) shut eu eo refl

  pub fire_by_channel : (c : Option ℕ) → None ≡ lowest_of taken (λ q. agrees false (has lit q)) → None ≡ lowest_of given (λ q. agrees true (has lit q)) → shut ≡ c → refuse_at c Shut (Ok tt) ≡ fire_outcome n lit shut t
  fire_by_channel c eu eo ec = outcome None None c eu eo ec

-- what a board exchanged, by the net m that a run lends, is what the transition takes and gives
pub fire_lays : (m n : PetriNet) → m ≡ n → (t taken given : ℕ) → taken ≡ m.takes t → given ≡ m.gives t
    → {B : Type 0} (lit : B → ℕ) (closed : B → Option ℕ) (before after : B) → Laid lit closed (exchange (lit before) taken given) before after → Laid lit closed (exchange (lit before) (n.takes t) (n.gives t)) before after
fire_lays m n held t taken given takes gives lit closed before after laid =
    subst (λ s. Laid lit closed s before after) (ap₂ (exchange (lit before)) (takes ∙ ap (λ (k : PetriNet). k.takes t) held) (gives ∙ ap (λ (k : PetriNet). k.gives t) held)) laid
