-- By how much an exchange of lines, and a fired transition, change what is lit weighs.
use Rattle.std.proofs.Common.{◌≡◌, ℕ, ◌<◌, Bool, true, false, cond, not, ◌&&◌, ◌||◌, T, ltb, List, get_or, sym, refl, ap, ◌∙◌, subst}
use Rattle.std.proofs.lemmas.Bool.{cond-true, lt-ltb}
use Rattle.net.specs.Sets.{has, difference, exchange, Subset, Disjoint}
use Rattle.net.specs.Nets.{PetriNet}
use Rattle.net.proofs.Bits.{has_union, has_difference}
use Rattle.weight.specs.Additions.{Addition, CommutativeMonoid, Inverts}
use Rattle.weight.specs.Weights.{weight_of, drift_of}
use Rattle.weight.proofs.Sums.{summed_same, summed_plus, unit_right}

module _ {W : Type 0} (a : Addition W) (minus : W → W) (laws : CommutativeMonoid a) (inverts : Inverts a minus) where
  -- one line: l whether it was lit, d whether it goes out, g whether it goes on
  line_weighs : (l d g : Bool) (w : W) → (T d → T l) → (T g → T (l && not d) → ⊥)
      → a.plus (cond ((l && not d) || g) w a.neutral) (cond d w a.neutral) ≡ a.plus (cond l w a.neutral) (cond g w a.neutral)
  line_weighs true true true w lit new = laws.commutative w w
  line_weighs true true false w lit new = laws.commutative a.neutral w
  line_weighs true false true w lit new = absurd (new tt tt)
  line_weighs true false false w lit new = refl
  line_weighs false true g w lit new = absurd (lit tt)
  line_weighs false false true w lit new = laws.commutative w a.neutral
  line_weighs false false false w lit new = refl

  -- what goes out was lit, and what goes on is not among what stays
  module _ (lit dark light : ℕ) (taken : Subset dark lit) (given : Disjoint light (difference lit dark)) (ws : List W) where
    abbrev weight_in : ℕ → ℕ → W
    weight_in s n = cond (has s n) (get_or ws n a.neutral) a.neutral

    sums_balance : a.plus (weight_of a (exchange lit dark light) ws) (weight_of a dark ws) ≡ a.plus (weight_of a lit ws) (weight_of a light ws)
    sums_balance =
        sym (summed_plus a laws 64 (weight_in (exchange lit dark light)) (weight_in dark))
        ∙ summed_same a 64 (λ n. a.plus (weight_in (exchange lit dark light) n) (weight_in dark n)) (λ n. a.plus (weight_in lit n) (weight_in light n))
        (λ n lt. ap (λ b. a.plus (cond b (get_or ws n a.neutral) a.neutral) (weight_in dark n)) (has_union (difference lit dark) light n ∙ ap (λ b. b || has light n) (has_difference lit dark n))
        ∙ line_weighs (has lit n) (has dark n) (has light n) (get_or ws n a.neutral) (taken n) (λ g stays. given n g (subst T (sym (has_difference lit dark n)) stays)))
        ∙ summed_plus a laws 64 (weight_in lit) (weight_in light)

    -- an exchange adds what goes on, less what goes out
    pub exchange_weighs : weight_of a (exchange lit dark light) ws ≡ a.plus (weight_of a lit ws) (a.plus (weight_of a light ws) (minus (weight_of a dark ws)))
    exchange_weighs =
        let x = weight_of a (exchange lit dark light) ws in
        let d = weight_of a dark ws in
        sym (unit_right a laws x) ∙ ap (a.plus x) (sym (inverts d)) ∙ sym (laws.associative x d (minus d))
        ∙ ap (λ y. a.plus y (minus d)) sums_balance ∙ laws.associative (weight_of a lit ws) (weight_of a light ws) (minus d)

  -- a transition whose taken places are lit, and whose given places are not among the lit ones that it leaves, adds its drift
  pub fire_adds_drift : (n : PetriNet) (t : ℕ) → t < n.transitions → (lit : ℕ) → Subset (n.takes t) lit → Disjoint (n.gives t) (difference lit (n.takes t)) → (ws : List W)
      → weight_of a (exchange lit (n.takes t) (n.gives t)) ws ≡ a.plus (weight_of a lit ws) (drift_of a minus n ws t)
  fire_adds_drift n t lt lit taken given ws =
      exchange_weighs lit (n.takes t) (n.gives t) taken given ws
      ∙ ap (a.plus (weight_of a lit ws)) (sym (cond-true (ltb t n.transitions) (a.plus (weight_of a (n.gives t) ws) (minus (weight_of a (n.takes t) ws))) a.neutral (lt-ltb t n.transitions lt)))
