-- Bytes written as digits and read again, and the other way round.
use Rattle.std.proofs.Common.{◌≡◌, ℕ, ◌+◌, ◌*◌, ◌/◌, ◌%◌, ◌<◌, true, ◌&&◌, List, [], ◌∷◌, ◌++◌, length, is_some, Some, sum, unwrap_or, refl, ap, ◌∙◌, ap₂, arith}
use Rattle.std.specs.List.{AllByRecursion as All}
use Rattle.std.proofs.lemmas.Bool.Decides.{nat_tests}
use Rattle.std.proofs.lemmas.Bool.{and_parts}
use Rattle.std.proofs.lemmas.List.Sums.{sum_by-append}
use Rattle.frame.specs.Digits.{digit_of, is_digit, all_digits, number_of, bytes_of, char_of, hex_of}
use Rattle.frame.specs.Lines.{check_of}

-- ---- one digit

-- the character of a number below 16 is the digit of that number
pub digit_char : (d : ℕ) → d < 16 → digit_of (char_of d) ≡ Some d
digit_char d small = grind (arith, nat_tests)

-- the character of the number of a digit is that digit
pub char_digit : (c : ℕ) → is_digit c ≡ true → char_of (number_of c) ≡ c
char_digit c e = grind (arith, nat_tests)

pub number_small : (c : ℕ) → number_of c < 16
number_small c = grind (arith, nat_tests)

-- ---- all digits of bytes

-- every number of the list is a byte
abbrev pub Bytes : List ℕ → Type 0
Bytes bs = All (λ b. b < 256) bs

pub length_hex : (bs : List ℕ) → length (hex_of bs) ≡ 2 * length bs
length_hex [] = refl
length_hex (b ∷ bs) = let h = length_hex bs in omega arith

pub hex_append : (xs ys : List ℕ) → hex_of (xs ++ ys) ≡ hex_of xs ++ hex_of ys
hex_append [] ys = refl
hex_append (x ∷ xs) ys = ap (λ l. char_of (x / 16) ∷ (char_of (x % 16) ∷ l)) (hex_append xs ys)

pub hex_digits : (bs : List ℕ) → Bytes bs → all_digits (hex_of bs) ≡ true
hex_digits [] all = refl
hex_digits (b ∷ bs) (byte, all) =
    ap₂ (λ x y. is_some x && (is_some y && all_digits (hex_of bs))) (digit_char (b / 16) (omega arith)) (digit_char (b % 16) (omega arith)) ∙ hex_digits bs all

-- bytes written and read are the same again
pub bytes_hex : (bs : List ℕ) → Bytes bs → bytes_of (hex_of bs) ≡ bs
bytes_hex [] all = refl
bytes_hex (b ∷ bs) (byte, all) =
    ap₂ (λ x y. (unwrap_or x 0 * 16 + unwrap_or y 0) ∷ bytes_of (hex_of bs)) (digit_char (b / 16) (omega arith)) (digit_char (b % 16) (omega arith))
    ∙ ap₂ (λ x l. x ∷ l) (omega arith) (bytes_hex bs all)

-- digits read and written are the same again
pub hex_bytes : (ds : List ℕ) → all_digits ds ≡ true → length ds % 2 ≡ 0 → hex_of (bytes_of ds) ≡ ds
hex_bytes [] all even = refl
hex_bytes (a ∷ []) all even = absurd (omega arith)
hex_bytes (a ∷ (b ∷ cs)) all even =
    let (first, others) = and_parts (is_digit a) (is_digit b && all_digits cs) all in
    let (second, rest) = and_parts (is_digit b) (all_digits cs) others in
    let low = number_small b in
    let high : (number_of a * 16 + number_of b) / 16 ≡ number_of a = omega arith in
    let less : (number_of a * 16 + number_of b) % 16 ≡ number_of b = omega arith in
    ap₂ (λ x y. char_of x ∷ (char_of y ∷ hex_of (bytes_of cs))) high less
    ∙ ap₂ (λ x y. x ∷ (y ∷ hex_of (bytes_of cs))) (char_digit a first) (char_digit b second)
    ∙ ap (λ l. a ∷ (b ∷ l)) (hex_bytes cs rest (omega arith))

pub bytes_append : (xs ys : List ℕ) → length xs % 2 ≡ 0 → bytes_of (xs ++ ys) ≡ bytes_of xs ++ bytes_of ys
bytes_append [] ys even = refl
bytes_append (a ∷ []) ys even = absurd (omega arith)
bytes_append (a ∷ (b ∷ cs)) ys even = ap (λ l. (number_of a * 16 + number_of b) ∷ l) (bytes_append cs ys (omega arith))

-- ---- the check byte

pub check_byte : (bs : List ℕ) → check_of bs < 256
check_byte bs = omega arith

pub check_sums : (bs : List ℕ) → sum (bs ++ check_of bs ∷ []) % 256 ≡ 0
check_sums bs = let e = sum_by-append (λ x. x) bs (check_of bs ∷ []) in omega arith

-- only the check byte makes the sum 0
pub check_is : (bs : List ℕ) (c : ℕ) → c < 256 → sum (bs ++ c ∷ []) % 256 ≡ 0 → c ≡ check_of bs
check_is bs c small e = let whole = sum_by-append (λ x. x) bs (c ∷ []) in omega arith
