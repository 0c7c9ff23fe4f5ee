-- One set inside another.
use Rattle.std.proofs.Common.{◌≡◌, ℕ, ◌^◌, ◌<◌, ◌≤◌, ◌⊎◌, ◌↔◌, sym, subst, inl, inr, ⊎_elim, arith}
use lib.Bits.{and_le_r, or_lt}
use Rattle.std.proofs.lemmas.Bool.{cases_lt, cases_eq}
use Rattle.net.specs.Sets.{In, intersection, union, difference, Subset}
use Rattle.net.proofs.Members.{in_cases, in_intersection, in_union, in_difference, in_single, same_members, none_in}

pub subset_self : (s : ℕ) → Subset s s
subset_self s p i = i

pub subset_trans : (a b c : ℕ) → Subset a b → Subset b c → Subset a c
subset_trans a b c f g p i = g p (f p i)

-- ---- the parts of what the operations make

pub intersection_first : (a b : ℕ) → Subset (intersection a b) a
intersection_first a b p i = ((in_intersection a b p).0 i).0

pub intersection_second : (a b : ℕ) → Subset (intersection a b) b
intersection_second a b p i = ((in_intersection a b p).0 i).1

pub union_first : (a b : ℕ) → Subset a (union a b)
union_first a b p i = (in_union a b p).1 (inl i)

pub union_second : (a b : ℕ) → Subset b (union a b)
union_second a b p i = (in_union a b p).1 (inr i)

pub union_subset : (a b s : ℕ) → Subset a s → Subset b s → Subset (union a b) s
union_subset a b s f g p i = ⊎_elim (f p) (g p) ((in_union a b p).0 i)

pub difference_first : (a b : ℕ) → Subset (difference a b) a
difference_first a b p i = ((in_difference a b p).0 i).0

pub single_subset : (p s : ℕ) → In p s → Subset (2 ^ p) s
single_subset p s i q j = subst (λ x. In x s) (sym ((in_single p q).0 j)) i

-- ---- as a test, and as numbers

pub subset_intersection : (r s : ℕ) → Subset r s ↔ (intersection r s ≡ r)
subset_intersection r s = (
  λ f. same_members (intersection r s) r (intersection_first r s) (λ p i. (in_intersection r s p).1 (i, f p i)),
  λ e p i. intersection_second r s p (subst (In p) (sym e) i),
)

pub subset_cases : (r s : ℕ) → Subset r s ⊎ (Subset r s → ⊥)
subset_cases r s = ⊎_elim (λ e. inl ((subset_intersection r s).1 e)) (λ ne. inr (λ f. ne ((subset_intersection r s).0 f))) (cases_eq (intersection r s) r)

pub subset_le : (r s : ℕ) → Subset r s → r ≤ s
subset_le r s f = let e = (subset_intersection r s).0 f in let h = and_le_r r s in omega arith

-- a set inside another that is not the other is a smaller number
pub subset_less : (r s : ℕ) → Subset r s → (r ≡ s → ⊥) → r < s
subset_less r s f ne = let h = subset_le r s f in omega arith

pub subset_below : (k r s : ℕ) → Subset r s → s < 2 ^ k → r < 2 ^ k
subset_below k r s f h = let l = subset_le r s f in omega arith

pub union_below : (k a b : ℕ) → a < 2 ^ k → b < 2 ^ k → union a b < 2 ^ k
union_below k a b ha hb = or_lt k a b ha hb

-- a set inside another that is not the other leaves something out
pub rest_some : (r s : ℕ) → Subset r s → (r ≡ s → ⊥) → 0 < difference s r
rest_some r s f ne =
    ⊎_elim (λ l. l)
    (λ l. let none = (none_in (difference s r)).0 (omega arith) in
    absurd (ne (same_members r s f (λ p i. ⊎_elim (λ j. j) (λ nj. absurd (none p ((in_difference s r p).1 (i, nj)))) (in_cases p r)))))
    (cases_lt 0 (difference s r))

-- ---- one operation inside another

pub intersection_of_union : (a b c : ℕ) → intersection (union a b) c ≡ union (intersection a c) (intersection b c)
intersection_of_union a b c =
    same_members (intersection (union a b) c) (union (intersection a c) (intersection b c))
    (λ p i. let (one, j) = (in_intersection (union a b) c p).0 i in
    ⊎_elim (λ l. union_first (intersection a c) (intersection b c) p ((in_intersection a c p).1 (l, j))) (λ r. union_second (intersection a c) (intersection b c) p ((in_intersection b c p).1 (r, j))) ((in_union a b p).0 one))
    (union_subset (intersection a c) (intersection b c) (intersection (union a b) c)
    (λ p i. (in_intersection (union a b) c p).1 (union_first a b p (intersection_first a c p i), intersection_second a c p i))
    (λ p i. (in_intersection (union a b) c p).1 (union_second a b p (intersection_first b c p i), intersection_second b c p i)))

pub difference_of_intersection : (a b c : ℕ) → difference (intersection a b) c ≡ intersection (difference a c) b
difference_of_intersection a b c =
    same_members (difference (intersection a b) c) (intersection (difference a c) b)
    (λ p i. let (l, out) = (in_difference (intersection a b) c p).0 i in (in_intersection (difference a c) b p).1 ((in_difference a c p).1 (intersection_first a b p l, out), intersection_second a b p l))
    (λ p i. let (l, j) = (in_intersection (difference a c) b p).0 i in
    let (k, out) = (in_difference a c p).0 l in
    (in_difference (intersection a b) c p).1 ((in_intersection a b p).1 (k, j), out))
