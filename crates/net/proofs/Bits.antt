-- A number by its bits: what `has` answers, as a test, of the intersection, the union and the difference of two sets, of 0 and of 2 ^ p.
use Rattle.std.proofs.Common.{◌≡◌, ℕ, zero, suc, ◌+◌, ◌*◌, ◌/◌, ◌%◌, ◌^◌, ◌<◌, Bool, true, false, cond, not, ◌&&◌, ◌||◌, eqb, sym, refl, ap, ◌∙◌, ap₂, pow-suc, div-add-mod', div-one, arith}
use native.Mathlib.Nat.{zero-div}
use lib.Dec.{eqb-zero-suc, eqb-suc-zero, eqb-suc-suc}
use lib.Bits.{bit_and, bit_or, bit_xor, and_shr, or_shr, xor_shr, and_mod, or_mod, xor_mod}
use Rattle.std.proofs.lemmas.Nat.{shr-shr, mod_below}
use Rattle.net.specs.Sets.{has, intersection, union, difference, exchange}

-- the lowest bit, and the bits above it
pub has_first : (s : ℕ) → has s 0 ≡ eqb (s % 2) 1
has_first s = ap (λ k. eqb (k % 2) 1) (div-one s)

pub has_next : (s p : ℕ) → has s (suc p) ≡ has (s / 2) p
has_next s p = ap (λ k. eqb (s / 2 ^ k % 2) 1) (omega arith) ∙ ap (λ k. eqb (k % 2) 1) (sym (shr-shr s 1 p))

-- a property of the digits 0 and 1
pub by_digit {ℓ} : (P : ℕ → Type ℓ) → P 0 → P 1 → (x : ℕ) → x < 2 → P x
by_digit P a b zero h = a
by_digit P a b (suc zero) h = b
by_digit P a b (suc (suc x)) h = absurd (omega arith)

pub digit_below : (x : ℕ) → x % 2 < 2
digit_below x = mod_below x 2 (omega arith)

pub has_intersection : (a b p : ℕ) → has (intersection a b) p ≡ (has a p && has b p)
has_intersection a b p =
    ap (λ k. eqb (k % 2) 1) (and_shr a b p) ∙ ap (λ k. eqb k 1) (and_mod (a / 2 ^ p) (b / 2 ^ p) 1)
    ∙ by_digit (λ u. eqb (bit_and u (b / 2 ^ p % 2)) 1 ≡ (eqb u 1 && has b p)) refl
    (by_digit (λ v. eqb (bit_and 1 v) 1 ≡ eqb v 1) refl refl _ (digit_below (b / 2 ^ p))) _ (digit_below (a / 2 ^ p))

pub has_union : (a b p : ℕ) → has (union a b) p ≡ (has a p || has b p)
has_union a b p =
    ap (λ k. eqb (k % 2) 1) (or_shr a b p) ∙ ap (λ k. eqb k 1) (or_mod (a / 2 ^ p) (b / 2 ^ p) 1)
    ∙ by_digit (λ u. eqb (bit_or u (b / 2 ^ p % 2)) 1 ≡ (eqb u 1 || has b p)) refl
    (by_digit (λ v. eqb (bit_or 1 v) 1 ≡ true) refl refl _ (digit_below (b / 2 ^ p))) _ (digit_below (a / 2 ^ p))

abbrev differs : Bool → Bool → Bool
differs x y = cond x (not y) y

has_xor : (a b p : ℕ) → has (bit_xor a b) p ≡ differs (has a p) (has b p)
has_xor a b p =
    ap (λ k. eqb (k % 2) 1) (xor_shr a b p) ∙ ap (λ k. eqb k 1) (xor_mod (a / 2 ^ p) (b / 2 ^ p) 1)
    ∙ by_digit (λ u. eqb (bit_xor u (b / 2 ^ p % 2)) 1 ≡ differs (eqb u 1) (has b p)) refl
    (by_digit (λ v. eqb (bit_xor 1 v) 1 ≡ not (eqb v 1)) refl refl _ (digit_below (b / 2 ^ p))) _ (digit_below (a / 2 ^ p))

differs_and : (x y : Bool) → differs x (x && y) ≡ (x && not y)
differs_and true y = refl
differs_and false y = refl

pub has_difference : (a b p : ℕ) → has (difference a b) p ≡ (has a p && not (has b p))
has_difference a b p = has_xor a (intersection a b) p ∙ ap (differs (has a p)) (has_intersection a b p) ∙ differs_and (has a p) (has b p)

pub has_exchange : (s dark light p : ℕ) → has (exchange s dark light) p ≡ ((has s p && not (has dark p)) || has light p)
has_exchange s dark light p = has_union (difference s dark) light p ∙ ap (λ b. b || has light p) (has_difference s dark p)

pub has_none : (p : ℕ) → has 0 p ≡ false
has_none p = ap (λ k. eqb (k % 2) 1) (zero-div (2 ^ p))

-- the one member of 2 ^ p is p
pub has_single : (p q : ℕ) → has (2 ^ p) q ≡ eqb p q
has_single zero zero = refl
has_single zero (suc q) = has_next 1 q ∙ has_none q ∙ sym (eqb-zero-suc q)
has_single (suc p) zero =
    let e = pow-suc 2 p in
    let low : 2 ^ suc p % 2 ≡ 0 = omega arith in
    has_first (2 ^ suc p) ∙ ap (λ k. eqb k 1) low ∙ sym (eqb-suc-zero p)
has_single (suc p) (suc q) =
    let e = pow-suc 2 p in
    let half : 2 ^ suc p / 2 ≡ 2 ^ p = omega arith in
    has_next (2 ^ suc p) q ∙ ap (λ k. has k q) half ∙ has_single p q ∙ sym (eqb-suc-suc p q)

one_digit : (x y : ℕ) → x < 2 → y < 2 → eqb x 1 ≡ eqb y 1 → x ≡ y
one_digit zero zero hx hy e = refl
one_digit zero (suc zero) hx hy e = absurd (let z : ◌≡◌ {A = ℕ} 0 1 = cc in omega arith)
one_digit (suc zero) zero hx hy e = absurd (let z : ◌≡◌ {A = ℕ} 0 1 = cc in omega arith)
one_digit (suc zero) (suc zero) hx hy e = refl
one_digit zero (suc (suc y)) hx hy e = absurd (omega arith)
one_digit (suc zero) (suc (suc y)) hx hy e = absurd (omega arith)
one_digit (suc (suc x)) y hx hy e = absurd (omega arith)

-- numbers below 2 ^ k with the same bits are equal
pub same_bits : (k a b : ℕ) → a < 2 ^ k → b < 2 ^ k → ((p : ℕ) → p < k → has a p ≡ has b p) → a ≡ b
same_bits zero a b ha hb same = omega arith
same_bits (suc k) a b ha hb same =
    let e = pow-suc 2 k in
    let high : a / 2 ≡ b / 2 = same_bits k (a / 2) (b / 2) (omega arith) (omega arith) (λ p lt. sym (has_next a p) ∙ same (suc p) (omega arith) ∙ has_next b p) in
    let low : a % 2 ≡ b % 2 = one_digit _ _ (digit_below a) (digit_below b) (sym (has_first a) ∙ same 0 (omega arith) ∙ has_first b) in
    sym (div-add-mod' a 2) ∙ ap₂ (λ x y. x * 2 + y) high low ∙ div-add-mod' b 2
