-- How many members a set has.
use Rattle.std.proofs.Common.{◌≡◌, ℕ, ◌+◌, ◌*◌, ◌^◌, ◌<◌, ◌≤◌, Bool, true, false, cond, not, ◌&&◌, ◌||◌, T, ◌↔◌, sym, refl, ap, ◌∙◌, subst, ap₂, ⊎_elim, arith}
use lib.Bits.{and_comm}
use lib.Count.{ones, ones_cat}
use Rattle.std.proofs.lemmas.Nat.{pow_pos}
use Rattle.std.proofs.lemmas.Bool.{cases_lt, cases_eq}
use Rattle.net.specs.Sets.{has, In, size, intersection, union, difference, Subset, Disjoint, one_in}
use Rattle.net.specs.Sums.{total}
use Rattle.net.proofs.Bits.{has_intersection, has_union, has_difference, has_none}
use Rattle.net.proofs.Members.{in_cases, has_in, in_intersection, in_difference, in_single, single_in, below_power, none_in, some_in}
use Rattle.net.proofs.Subsets.{single_subset, subset_intersection, difference_of_intersection}
use Rattle.net.proofs.Totals.{total_plus, total_same, total_less, size_total}

-- ---- one place

pub counts_once : (s p : ℕ) → one_in s p ≤ 1
counts_once s p = once (has s p)
  where
    once : (b : Bool) → cond b 1 0 ≤ 1
    once true = omega arith
    once false = omega arith

-- a place counts 1 where the set has it, and else 0
pub counts_in : (s p : ℕ) → In p s ↔ (one_in s p ≡ 1)
counts_in s p = at (has s p)
  where
    at : (b : Bool) → T b ↔ (◌≡◌ {A = ℕ} (cond b 1 0) 1)
    at true = (λ h. refl, λ e. tt)
    at false = (λ h. absurd h, λ e. absurd (omega arith))

pub counts_out : (s p : ℕ) → (In p s → ⊥) ↔ (one_in s p ≡ 0)
counts_out s p = at (has s p)
  where
    at : (b : Bool) → (T b → ⊥) ↔ (◌≡◌ {A = ℕ} (cond b 1 0) 0)
    at true = (λ h. absurd (h tt), λ e. absurd (omega arith))
    at false = (λ h. refl, λ e h. h)

-- ---- all places

-- a size as a sum over any number of places that is no less than the set's number
sized_within : (k s : ℕ) → s ≤ k → size s ≡ total k (one_in s)
sized_within k s le = size_total k s (below_power s k le)

-- where each place counts as often in a and b as in c and d, so do all places
pub sizes_balance : (a b c d : ℕ) → ((p : ℕ) → one_in a p + one_in b p ≡ one_in c p + one_in d p) → size a + size b ≡ size c + size d
sizes_balance a b c d same =
    let k : ℕ = a + b + c + d in
    ap₂ ◌+◌ (sized_within k a (omega arith)) (sized_within k b (omega arith)) ∙ sym (total_plus k (one_in a) (one_in b))
    ∙ total_same k (λ p. one_in a p + one_in b p) (λ p. one_in c p + one_in d p) (λ p lt. same p)
    ∙ total_plus k (one_in c) (one_in d) ∙ sym (ap₂ ◌+◌ (sized_within k c (omega arith)) (sized_within k d (omega arith)))

-- a set inside another has no more members
pub size_subset : (r s : ℕ) → Subset r s → size r ≤ size s
size_subset r s f =
    let lr = sized_within (r + s) r (omega arith) in
    let ls = sized_within (r + s) s (omega arith) in
    let le = total_less (r + s) (one_in r) (one_in s) (λ p lt. less (has r p) (has s p) (f p)) in
    omega arith
  where
    less : (x y : Bool) → (T x → T y) → cond x 1 0 ≤ cond y 1 0
    less true true h = omega arith
    less true false h = absurd (h tt)
    less false y h = omega arith

pub size_none : size 0 ≡ 0
unfolding ones
size_none = refl

pub size_single : (p : ℕ) → size (2 ^ p) ≡ 1
unfolding ones
size_single p = let e : 2 ^ p ≡ 1 * 2 ^ p + 0 = omega arith in ap size e ∙ ones_cat p 1 0 (pow_pos p)

-- the members that t has, and those that it has not
pub size_parts : (s t : ℕ) → size s ≡ size (intersection s t) + size (difference s t)
size_parts s t =
    let e = sizes_balance s 0 (intersection s t) (difference s t)
    (λ p. ap (λ x. one_in s p + cond x 1 0) (has_none p) ∙ counted (has s p) (has t p)
    ∙ sym (ap₂ (λ x y. cond x 1 0 + cond y 1 0) (has_intersection s t p) (has_difference s t p))) in
    let z = size_none in
    omega arith
  where
    counted : (x y : Bool) → cond x 1 0 + 0 ≡ cond (x && y) 1 0 + cond (x && not y) 1 0
    counted true true = refl
    counted true false = refl
    counted false true = refl
    counted false false = refl

-- ---- a size of 0, of more, and of at most 1

pub in_size : (s p : ℕ) → In p s → 0 < size s
in_size s p i = let le = size_subset (2 ^ p) s (single_subset p s i) in let one = size_single p in omega arith

pub size_empty : (s : ℕ) → (s ≡ 0) ↔ (size s ≡ 0)
size_empty s = (λ e. ap size e ∙ size_none, λ z. (none_in s).1 (λ p i. let h = in_size s p i in omega arith))

pub size_some : (s : ℕ) → (0 < s) ↔ (0 < size s)
size_some s = (
  λ h. let m = (some_in s).0 h in in_size s m.0 m.1,
  λ h. ⊎_elim (λ e. absurd (let z = (size_empty s).0 e in omega arith)) (λ ne. omega arith) (cases_eq s 0),
)

-- any two members are one
pub size_one : (s : ℕ) → (size s ≤ 1) ↔ ((p q : ℕ) → In p s → In q s → p ≡ q)
size_one s = (same, few)
  where
    same : size s ≤ 1 → (p q : ℕ) → In p s → In q s → p ≡ q
    same le p q i j =
        ⊎_elim (λ e. e)
        (λ ne. absurd (
        let first = in_size (intersection s (2 ^ p)) p ((in_intersection s (2 ^ p) p).1 (i, single_in p)) in
        let second = in_size (difference s (2 ^ p)) q ((in_difference s (2 ^ p) q).1 (j, λ k. ne (sym ((in_single p q).0 k)))) in
        let sum = size_parts s (2 ^ p) in omega arith))
        (cases_eq p q)

    few : ((p q : ℕ) → In p s → In q s → p ≡ q) → size s ≤ 1
    few one =
        ⊎_elim
        (λ l. let m = (some_in s).0 l in
        let le = size_subset s (2 ^ m.0) (λ q i. (in_single m.0 q).1 (one q m.0 i m.1)) in
        let single = size_single m.0 in omega arith)
        (λ l. let z = (size_empty s).0 (omega arith) in omega arith)
        (cases_lt 0 s)

-- ---- unions, and the places of one set that another has

pub size_union_intersection : (a b : ℕ) → size (union a b) + size (intersection a b) ≡ size a + size b
size_union_intersection a b =
    sizes_balance (union a b) (intersection a b) a b
    (λ p. ap₂ (λ x y. cond x 1 0 + cond y 1 0) (has_union a b p) (has_intersection a b p) ∙ counted (has a p) (has b p))
  where
    counted : (x y : Bool) → cond (x || y) 1 0 + cond (x && y) 1 0 ≡ cond x 1 0 + cond y 1 0
    counted true true = refl
    counted true false = refl
    counted false true = refl
    counted false false = refl

pub size_union : (a b : ℕ) → Disjoint a b → size (union a b) ≡ size a + size b
size_union a b apart =
    let e = size_union_intersection a b in
    let z = (size_empty (intersection a b)).0 ((none_in (intersection a b)).1 (λ p i. let (l, r) = (in_intersection a b p).0 i in apart p l r)) in
    omega arith

-- p counts once where it is in s
pub size_intersection_single : (p s : ℕ) → size (intersection (2 ^ p) s) ≡ one_in s p
size_intersection_single p s =
    ⊎_elim
    (λ i. ap size ((subset_intersection (2 ^ p) s).0 (single_subset p s i)) ∙ size_single p ∙ sym ((counts_in s p).0 i))
    (λ ni. (size_empty (intersection (2 ^ p) s)).0 ((none_in (intersection (2 ^ p) s)).1 (λ q j.
    let (l, r) = (in_intersection (2 ^ p) s q).0 j in ni (subst (λ x. In x s) ((in_single p q).0 l) r)))
    ∙ sym ((counts_out s p).0 ni))
    (in_cases p s)

-- a set with p counts p and the rest
pub size_with : (p x s : ℕ) → In p x → size (intersection x s) ≡ one_in s p + size (intersection (difference x (2 ^ p)) s)
size_with p x s i =
    size_parts (intersection x s) (2 ^ p)
    ∙ ap₂ ◌+◌ (ap size (and_comm (intersection x s) (2 ^ p)) ∙ size_intersection_single p (intersection x s) ∙ ap (λ b. cond b 1 0) (has_intersection x s p ∙ ap (λ b. b && has s p) (has_in p x i)))
    (ap size (difference_of_intersection x s (2 ^ p)))
