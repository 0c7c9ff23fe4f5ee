-- What is in a set, and sets by their members.
use Rattle.std.proofs.Common.{◌≡◌, ℕ, zero, suc, ◌+◌, ◌-◌, ◌*◌, ◌/◌, ◌%◌, ◌^◌, ◌<◌, ◌≤◌, Bool, true, false, not, ◌&&◌, ◌||◌, T, eqb, ◌⊎◌, ◌↔◌, sym, refl, ap, ◌∙◌, subst, inl, inr, ⊎_elim, pow-suc, arith, eqb→eq, pow_mono}
use native.Mathlib.Nat.{div-eq_of_lt}
use Rattle.std.proofs.lemmas.Nat.{leading_top, shr_high}
use Rattle.std.proofs.lemmas.Bool.{cases_lt, eq-eqb}
use Rattle.net.specs.Sets.{has, In, intersection, union, difference, exchange, Subset}
use Rattle.net.proofs.Bits.{has_intersection, has_union, has_difference, has_none, has_single, same_bits}

-- ---- tests that hold

test_in : {A : Type 0} (x y : Bool) → x ≡ y → T y ↔ A → T x ↔ A
test_in x y e f = (λ h. f.0 (subst T e h), λ a. subst T (sym e) (f.1 a))

both_hold : (x y : Bool) → T (x && y) ↔ (T x × T y)
both_hold true y = (λ h. (tt, h), λ h. h.1)
both_hold false y = (λ h. absurd h, λ h. h.0)

one_holds : (x y : Bool) → T (x || y) ↔ (T x ⊎ T y)
one_holds true y = (λ h. inl tt, λ h. tt)
one_holds false y = (λ h. inr h, ⊎_elim (λ h. absurd h) (λ h. h))

first_holds : (x y : Bool) → T (x && not y) ↔ (T x × (T y → ⊥))
first_holds true true = (λ h. absurd h, λ h. h.1 tt)
first_holds true false = (λ h. (tt, λ g. g), λ h. tt)
first_holds false y = (λ h. absurd h, λ h. h.0)

is_true : (x : Bool) → T x → x ≡ true
is_true true h = refl
is_true false h = absurd h

is_false : (x : Bool) → (T x → ⊥) → x ≡ false
is_false true h = absurd (h tt)
is_false false h = refl

test_cases : (x : Bool) → T x ⊎ (T x → ⊥)
test_cases true = inl tt
test_cases false = inr (λ h. h)

same_test : (x y : Bool) → (T x → T y) → (T y → T x) → x ≡ y
same_test true y f g = sym (is_true y (f tt))
same_test false y f g = sym (is_false y g)

-- ---- what is in a set

pub in_cases : (p s : ℕ) → In p s ⊎ (In p s → ⊥)
in_cases p s = test_cases (has s p)

-- the test is true of a member, and false of what is none
pub has_in : (p s : ℕ) → In p s → has s p ≡ true
has_in p s = is_true (has s p)

pub has_out : (p s : ℕ) → (In p s → ⊥) → has s p ≡ false
has_out p s = is_false (has s p)

pub in_intersection : (a b p : ℕ) → In p (intersection a b) ↔ (In p a × In p b)
in_intersection a b p = test_in (has (intersection a b) p) (has a p && has b p) (has_intersection a b p) (both_hold (has a p) (has b p))

pub in_union : (a b p : ℕ) → In p (union a b) ↔ (In p a ⊎ In p b)
in_union a b p = test_in (has (union a b) p) (has a p || has b p) (has_union a b p) (one_holds (has a p) (has b p))

pub in_difference : (a b p : ℕ) → In p (difference a b) ↔ (In p a × (In p b → ⊥))
in_difference a b p = test_in (has (difference a b) p) (has a p && not (has b p)) (has_difference a b p) (first_holds (has a p) (has b p))

pub in_exchange : (s dark light p : ℕ) → In p (exchange s dark light) ↔ ((In p s × (In p dark → ⊥)) ⊎ In p light)
in_exchange s dark light p = (
  λ i. ⊎_elim (λ j. inl ((in_difference s dark p).0 j)) (λ j. inr j) ((in_union (difference s dark) light p).0 i),
  λ h. (in_union (difference s dark) light p).1 (⊎_elim (λ j. inl ((in_difference s dark p).1 j)) (λ j. inr j) h),
)

pub in_none : (p : ℕ) → In p 0 → ⊥
in_none p i = subst T (has_none p) i

-- 2 ^ p is the set of p alone
pub in_single : (p q : ℕ) → In q (2 ^ p) ↔ (q ≡ p)
in_single p q =
    test_in (has (2 ^ p) q) (eqb p q) (has_single p q) (λ h. sym (eqb→eq p q h), λ e. subst T (sym (eq-eqb p q (sym e))) tt)

pub single_in : (p : ℕ) → In p (2 ^ p)
single_in p = (in_single p p).1 refl

-- a set without p, and with p
pub in_difference_single : (s p q : ℕ) → In q (difference s (2 ^ p)) ↔ (In q s × (q ≡ p → ⊥))
in_difference_single s p q = (
  λ i. let (j, out) = (in_difference s (2 ^ p) q).0 i in (j, λ e. out ((in_single p q).1 e)),
  λ h. (in_difference s (2 ^ p) q).1 (h.0, λ j. h.1 ((in_single p q).0 j)),
)

pub in_union_single : (s p q : ℕ) → In q (union s (2 ^ p)) ↔ (In q s ⊎ (q ≡ p))
in_union_single s p q = (
  λ i. ⊎_elim (λ j. inl j) (λ j. inr ((in_single p q).0 j)) ((in_union s (2 ^ p) q).0 i),
  λ h. (in_union s (2 ^ p) q).1 (⊎_elim (λ j. inl j) (λ e. inr ((in_single p q).1 e)) h),
)

-- ---- a set as a number

pub below_power : (n k : ℕ) → n ≤ k → n < 2 ^ k
below_power n k le = let h = self n in let m : 2 ^ n ≤ 2 ^ k = pow_mono le in omega arith
  where
    self : (n : ℕ) → n < 2 ^ n
    self zero = omega arith
    self (suc n) = omega (arith, self n, pow-suc 2 n)

-- a member of a set below 2 ^ k is below k
pub in_below : (k s p : ℕ) → s < 2 ^ k → In p s → p < k
in_below k s p h i =
    ⊎_elim (λ l. l)
    (λ l. let m : 2 ^ k ≤ 2 ^ p = pow_mono l in
    let none : s / 2 ^ p ≡ 0 = div-eq_of_lt (omega arith) in
    let one : s / 2 ^ p % 2 ≡ 1 = eqb→eq _ _ i in
    let z : ◌≡◌ {A = ℕ} 0 1 = sym (ap (λ x. x % 2) none) ∙ one in
    omega arith)
    (cases_lt p k)

-- a set of k places has none from k on
pub has_past : (k s p : ℕ) → s < 2 ^ k → k ≤ p → has s p ≡ false
has_past k s p fits past = has_out p s (λ i. let lt = in_below k s p fits i in omega arith)

-- sets with the same members are equal
pub same_members : (a b : ℕ) → Subset a b → Subset b a → a ≡ b
same_members a b f g =
    same_bits (a + b) a b (below_power a (a + b) (omega arith)) (below_power b (a + b) (omega arith)) (λ p lt. same_test (has a p) (has b p) (f p) (g p))

-- a set is 0 where it has no member
pub none_in : (s : ℕ) → (s ≡ 0) ↔ ((p : ℕ) → In p s → ⊥)
none_in s = (λ e p i. in_none p (subst (In p) e i), λ h. same_members s 0 (λ p i. absurd (h p i)) (λ p i. absurd (in_none p i)))

-- and more where it has one
pub some_in : (s : ℕ) → (0 < s) ↔ ((p : ℕ) × In p s)
some_in s = (top, λ m. ⊎_elim (λ l. l) (λ l. absurd ((none_in s).0 (omega arith) m.0 m.1)) (cases_lt 0 s))
  where
    top : 0 < s → (p : ℕ) × In p s
    top h =
        let lead = leading_top s s h (below_power s s (omega arith)) in
        let j = lead.0 in
        let low : s - 2 ^ j < 2 ^ j = omega arith in
        let whole : 1 * 2 ^ j + (s - 2 ^ j) ≡ s = omega arith in
        let one : s / 2 ^ j ≡ 1 = sym (ap (λ x. x / 2 ^ j) whole) ∙ shr_high 1 j (s - 2 ^ j) low in
        (j, subst (λ x. T (eqb (x % 2) 1)) (sym one) tt)
