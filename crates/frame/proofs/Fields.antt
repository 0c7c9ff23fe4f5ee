-- One byte among digits, and the number that several make.
use Rattle.std.proofs.Common.{◌≡◌, ℕ, zero, suc, ◌+◌, ◌*◌, ◌^◌, ◌<◌, ◌≤◌, List, [], ◌∷◌, length, get_or, unwrap_or, Some, sym, refl, ap, ◌∙◌, ap₂, add-one, arith, pow_mono, pow-add}
use Rattle.std.proofs.lemmas.List.{get_or_past}
use Rattle.frame.specs.Digits.{digit_of, number_of, bytes_of}
use Rattle.std.specs.Int.{from_be_bytes, w64}
use Rattle.frame.specs.Requests.{number_from, set_at}
use Rattle.frame.proofs.Readings.{length_bytes}

pub byte_at : (ds : List ℕ) (i : ℕ) → 2 * i + 2 ≤ length ds → get_or (bytes_of ds) i 0 ≡ number_of (get_or ds (2 * i) 0) * 16 + number_of (get_or ds (2 * i + 1) 0)
byte_at [] i long = absurd (omega arith)
byte_at (a ∷ []) i long = absurd (omega arith)
byte_at (a ∷ (b ∷ cs)) zero long = refl
byte_at (a ∷ (b ∷ cs)) (suc i) long =
    let first : suc (suc (2 * i)) ≡ 2 * suc i = omega arith in
    let second : suc (suc (2 * i + 1)) ≡ 2 * suc i + 1 = omega arith in
    byte_at cs i (omega arith) ∙ ap₂ (λ j k. number_of (get_or (a ∷ (b ∷ cs)) j 0) * 16 + number_of (get_or (a ∷ (b ∷ cs)) k 0)) first second

pub no_byte : (ds : List ℕ) (i : ℕ) → length ds < 2 * i + 2 → get_or (bytes_of ds) i 0 ≡ 0
no_byte ds i short = get_or_past (bytes_of ds) i 0 (let h = length_bytes ds in omega arith)

pub number_none : (bytes : List ℕ) (at : ℕ) → number_from 0 bytes at ≡ 0
unfolding number_from
number_none bytes at = refl

pub number_more : (n : ℕ) (bytes : List ℕ) (at : ℕ) → number_from (n + 1) bytes at ≡ number_from n bytes at * 256 + get_or bytes (at + n) 0
unfolding number_from
number_more n bytes at = ap (λ k. number_from k bytes at) (add-one n)

-- eight bytes, read as one number, are a set
pub set_from_bytes : (bytes ys : List ℕ) (at : ℕ) → ((i : ℕ) → i < 8 → get_or ys i 0 ≡ get_or bytes (at + i) 0) → from_be_bytes w64 ys ≡ set_at bytes at
unfolding number_from
set_from_bytes bytes ys at each =
    let a = each 0 (omega arith) in
    let b = each 1 (omega arith) in
    let c = each 2 (omega arith) in
    let d = each 3 (omega arith) in
    let e = each 4 (omega arith) in
    let f = each 5 (omega arith) in
    let g = each 6 (omega arith) in
    let h = each 7 (omega arith) in
    omega arith

-- a number of i bytes, and one byte more
pub wider : (i x b : ℕ) → x < 2 ^ (8 * i) → b < 256 → x * 256 + b < 2 ^ (8 * (i + 1))
wider i x b small byte =
    let at : 8 * (i + 1) ≡ 8 * i + 8 = omega arith in
    let e : 2 ^ (8 * (i + 1)) ≡ 2 ^ (8 * i) * 2 ^ 8 = ap (λ k. 2 ^ k) at ∙ pow-add 2 (8 * i) 8 in
    omega arith

pub fits_set : (i x : ℕ) → i ≤ 8 → x < 2 ^ (8 * i) → x < 2 ^ 64
fits_set i x le small = let m : 2 ^ (8 * i) ≤ 2 ^ 64 = let le8 : 8 * i ≤ 64 = omega arith in pow_mono le8 in omega arith

-- two characters that are digits stand for this byte
pub two_digits : (a b high low : ℕ) → digit_of a ≡ Some high → digit_of b ≡ Some low → high * 16 + low ≡ number_of a * 16 + number_of b
two_digits a b high low x y = ap₂ (λ h l. h * 16 + l) (sym (ap (λ o. unwrap_or o 0) x)) (sym (ap (λ o. unwrap_or o 0) y))
