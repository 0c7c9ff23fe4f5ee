-- What memory holds as a line is put into it, byte after byte.
use Rattle.std.proofs.Common.{◌≡◌, ℕ, suc, ◌+◌, ◌-◌, ◌*◌, ◌/◌, ◌%◌, ◌≤◌, List, [], ◌∷◌, ◌++◌, length, get_or, drop, set, sum, sym, ap, ◌∙◌, ap₂, append_assoc, arith}
use native.Mathlib.Nat.{mod-add-mod}
use Rattle.std.proofs.lemmas.List.{set-append_right, drop-drop, drop_more, length_push}
use Rattle.std.proofs.lemmas.List.Sums.{sum_by_push}
use Rattle.frame.specs.Digits.{char_of, hex_of}
use Rattle.frame.specs.Lines.{check_of, line_of}
use Rattle.frame.proofs.Rounds.{length_hex, hex_append}

-- memory that begins with the digits of bs, n of them, and goes on as m0 does
abbrev pub Holds : List ℕ → List ℕ → ℕ → List ℕ → Type 0
Holds m bs n m0 = m ≡ hex_of bs ++ drop n m0

-- one more byte behind them
pub puts_byte : (m bs m0 : List ℕ) (n b : ℕ) → Holds m bs n m0 → n ≡ 2 * length bs → n + 2 ≤ length m0
    → Holds (set (set m n (char_of (b / 16))) (n + 1) (char_of (b % 16))) (bs ++ b ∷ []) (n + 2) m0
puts_byte m bs m0 n b holds is room =
    let p = hex_of bs in
    let high = char_of (b / 16) in
    let low = char_of (b % 16) in
    let long : length p ≡ n = length_hex bs ∙ sym is in
    let two : drop n m0 ≡ get_or m0 n 0 ∷ (get_or m0 (n + 1) 0 ∷ drop (n + 1 + 1) m0) =
    drop_more m0 n 0 (omega arith) ∙ ap (λ l. get_or m0 n 0 ∷ l) (drop_more m0 (n + 1) 0 (omega arith)) in
    let at : n - n ≡ 0 = omega arith in
    let next : n + 1 - n ≡ 1 = omega arith in
    let on : n + 1 + 1 ≡ n + 2 = omega arith in
    ap (λ l. set (set l n high) (n + 1) low) (holds ∙ ap (λ l. p ++ l) two)
    ∙ ap (λ l. set l (n + 1) low) (set-append_right p (get_or m0 n 0 ∷ (get_or m0 (n + 1) 0 ∷ drop (n + 1 + 1) m0)) n n high long (omega arith) ∙ ap (λ i. p ++ set (get_or m0 n 0 ∷ (get_or m0 (n + 1) 0 ∷ drop (n + 1 + 1) m0)) i high) at)
    ∙ set-append_right p (high ∷ (get_or m0 (n + 1) 0 ∷ drop (n + 1 + 1) m0)) n (n + 1) low long (omega arith)
    ∙ ap₂ (λ i j. p ++ set (high ∷ (get_or m0 (n + 1) 0 ∷ drop j m0)) i low) next on
    ∙ sym (append_assoc p (high ∷ (low ∷ [])) (drop (n + 2) m0))
    ∙ ap (λ l. l ++ drop (n + 2) m0) (sym (hex_append bs (b ∷ [])))

-- a line feed behind them
pub puts_feed : (m bs m0 : List ℕ) (n : ℕ) → Holds m bs n m0 → n ≡ 2 * length bs → n + 1 ≤ length m0 → set m n 10 ≡ (hex_of bs ++ 10 ∷ []) ++ drop (n + 1) m0
puts_feed m bs m0 n holds is room =
    let p = hex_of bs in
    let long : length p ≡ n = length_hex bs ∙ sym is in
    let at : n - n ≡ 0 = omega arith in
    ap (λ l. set l n 10) (holds ∙ ap (λ l. p ++ l) (drop_more m0 n 0 (omega arith)))
    ∙ set-append_right p (get_or m0 n 0 ∷ drop (n + 1) m0) n n 10 long (omega arith)
    ∙ ap (λ i. p ++ set (get_or m0 n 0 ∷ drop (n + 1) m0) i 10) at
    ∙ sym (append_assoc p (10 ∷ []) (drop (n + 1) m0))

-- a running sum takes in one byte more
pub sums_byte : (bs : List ℕ) (s b : ℕ) → s ≡ sum bs % 256 → (s + b) % 256 ≡ sum (bs ++ b ∷ []) % 256
sums_byte bs s b is = ap (λ x. (x + b) % 256) is ∙ mod-add-mod (sum bs) 256 b ∙ ap (λ x. x % 256) (sym (sum_by_push (λ x. x) bs b))

-- what is past the first two places stays after a byte was put there
pub past_first : (m m0 : List ℕ) (b n : ℕ) → Holds m (b ∷ []) 2 m0 → drop (n + 2) m ≡ drop (n + 2) m0
past_first m m0 b n holds =
    let on : n + 2 ≡ suc (suc n) = omega arith in
    let back : 2 + n ≡ n + 2 = omega arith in
    ap₂ drop on holds ∙ drop-drop n 2 m0 ∙ ap (λ k. drop k m0) back

pub length_line : (kind : ℕ) (payload : List ℕ) → length (line_of kind payload) ≡ 2 * length payload + 5
length_line kind payload =
    let bytes = kind ∷ (payload ++ check_of (kind ∷ payload) ∷ []) in
    let a = length_push (hex_of bytes) 10 in
    let b = length_hex bytes in
    let c = length_push payload (check_of (kind ∷ payload)) in
    omega arith
