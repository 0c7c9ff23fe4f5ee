-- Each fusion takes all arcs from a transition that had some, so there are at most as many as there are transitions.
use Rattle.std.proofs.Common.{◌≡◌, ℕ, zero, suc, ◌+◌, ◌^◌, ◌<◌, ◌≤◌, Bool, true, false, cond, eqb, sym, ap, ◌∙◌, subst, ap₂, ⊎_elim, arith}
use Rattle.std.proofs.lemmas.Bool.{cases_eq, cond-true, cond-false, eq-eqb, ne_eqb}
use Rattle.net.specs.Nets.{PetriNet}
use Rattle.net.specs.Sets.{In, one_in, union}
use Rattle.net.specs.Sums.{total}
use Rattle.net.proofs.Members.{in_single, single_in, none_in}
use Rattle.net.proofs.Sizes.{counts_once, counts_in, counts_out}
use Rattle.net.proofs.Subsets.{union_first, union_second}
use Rattle.net.proofs.Totals.{total_plus, total_less, term_at_most}
use Rattle.fold.specs.Fusions.{touches, swapped}
use Rattle.fold.proofs.Replaced.{Replaces}
use Rattle.fold.proofs.Swapped.{swapped_lacking}

-- 1 for a transition with arcs
abbrev pub busy_at : PetriNet → ℕ → ℕ
busy_at n t = cond (eqb (touches n t) 0) 0 1

-- how many transitions have arcs
abbrev pub busy : PetriNet → ℕ
busy n = total n.transitions (busy_at n)

bit_at_most : (b : Bool) → cond b 0 1 ≤ 1
bit_at_most true = omega arith
bit_at_most false = omega arith

total_at_most : (k : ℕ) (f : ℕ → ℕ) → ((p : ℕ) → f p ≤ 1) → total k f ≤ k
unfolding total
total_at_most zero f h = omega arith
total_at_most (suc k) f h = let first = h 0 in let rest = total_at_most k (λ p. f (suc p)) (λ p. h (suc p)) in omega arith

pub busy_few : (n : PetriNet) → busy n ≤ n.transitions
busy_few n = total_at_most n.transitions (busy_at n) (λ t. bit_at_most (eqb (touches n t) 0))

module _ (n n' : PetriNet) (x p noted : ℕ) (r : Replaces n n' x p noted) where
  idle_stays : (t : ℕ) → t < n.transitions → (t ≡ x → ⊥) → touches n t ≡ 0 → touches n' t ≡ 0
  idle_stays t lt ne none = ap₂ union
      (r.takes_swapped t lt ne ∙ gone (n.takes t) (λ q i. (none_in (touches n t)).0 none q (union_first (n.takes t) (n.gives t) q i)))
      (r.gives_swapped t lt ne ∙ gone (n.gives t) (λ q i. (none_in (touches n t)).0 none q (union_second (n.takes t) (n.gives t) q i)))
    where
      gone : (y : ℕ) → ((q : ℕ) → In q y → ⊥) → swapped p noted y ≡ 0
      gone y empty = swapped_lacking p noted y (empty p) ∙ (none_in y).1 empty

  x_was_busy : touches n x ≡ 0 → ⊥
  x_was_busy none = ⊎_elim
      (λ j. (none_in (touches n x)).0 none p (union_first (n.takes x) (n.gives x) p (subst (In p) (sym j.0) (single_in p))))
      (λ j. (none_in (touches n x)).0 none p (union_second (n.takes x) (n.gives x) p (subst (In p) (sym j.1) (single_in p))))
      r.x_joins

  less_at : (t : ℕ) → t < n.transitions → busy_at n' t + one_in (2 ^ x) t ≤ busy_at n t
  less_at t lt = ⊎_elim
      (λ e. let none : touches n' t ≡ 0 = ap₂ union (ap n'.takes e ∙ r.x_takes_none) (ap n'.gives e ∙ r.x_gives_none) in
      let after : busy_at n' t ≡ 0 = cond-true (eqb (touches n' t) 0) 0 1 (eq-eqb (touches n' t) 0 none) in
      let before : busy_at n t ≡ 1 = cond-false (eqb (touches n t) 0) 0 1 (ne_eqb (touches n t) 0 (λ z. x_was_busy (ap (touches n) (sym e) ∙ z))) in
      let once = counts_once (2 ^ x) t in
      omega arith)
      (λ ne. let none : one_in (2 ^ x) t ≡ 0 = (counts_out (2 ^ x) t).0 (λ i. ne ((in_single x t).0 i)) in
      ⊎_elim
      (λ z. let after : busy_at n' t ≡ 0 = cond-true (eqb (touches n' t) 0) 0 1 (eq-eqb (touches n' t) 0 (idle_stays t lt ne z)) in omega arith)
      (λ nz. let before : busy_at n t ≡ 1 = cond-false (eqb (touches n t) 0) 0 1 (ne_eqb (touches n t) 0 nz) in
      let after = bit_at_most (eqb (touches n' t) 0) in omega arith)
      (cases_eq (touches n t) 0))
      (cases_eq t x)

  pub busy_falls : busy n' < busy n
  busy_falls =
      let k = n.transitions in
      let same : busy n' ≡ total k (busy_at n') = ap (λ j. total j (busy_at n')) r.transitions_stay in
      let sum = total_plus k (busy_at n') (one_in (2 ^ x)) in
      let less = total_less k (λ t. busy_at n' t + one_in (2 ^ x) t) (busy_at n) less_at in
      let one : one_in (2 ^ x) x ≡ 1 = (counts_in (2 ^ x) x).0 (single_in x) in
      let some = term_at_most k (one_in (2 ^ x)) x r.x_below in
      omega arith
