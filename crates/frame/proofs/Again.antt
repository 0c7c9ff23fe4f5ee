-- A line that is read and written is the same again, and so is a frame that is written and read.
use Rattle.std.proofs.Common.{◌≡◌, ℕ, suc, ◌+◌, ◌-◌, ◌*◌, ◌%◌, ◌<◌, true, not, ◌||◌, eqb, ltb, List, [], ◌∷◌, ◌++◌, length, get_or, take, drop, is_ok, IfOk, Ok, Err, sum, Result, sym, refl, ap, ◌∙◌, subst, ap₂, arith, MatchResult}
use Rattle.std.proofs.ByRecursion.{All-append}
use Rattle.std.proofs.lemmas.List.{take-append-drop, take_at, get_or_at, length_push, length-drop, length-take-le}
use Rattle.std.proofs.lemmas.Bool.{false≢true, cond-true, eqb-true, eqb-false, ltb-false, not-false, or_parts}
use Rattle.refusal.specs.declared.Refusal.{Refusal}
use Rattle.refusal.specs.declared.Refusal.TheVariants.{Foreign, OddOrShort, WrongCheck}
use Rattle.refusal.specs.Outcomes.{refuse_if}
use Rattle.refusal.proofs.Outcomes.{accepted_past_if}
use Rattle.frame.specs.Digits.{all_digits, number_of, bytes_of, hex_of}
use Rattle.frame.specs.Lines.{digits_in, kind_in, check_of, line_of, check_kind, check_digits}
use Rattle.frame.specs.declared.frames.Frame.{Frame}
use Rattle.frame.specs.Frames.{kind_of, place_of, payload_of, Reads, DigitsRead, ReadsAs}
use Rattle.frame.proofs.Readings.{Paired, right_check}
use Rattle.frame.proofs.Rounds.{Bytes, number_small, length_hex, hex_append, hex_digits, bytes_hex, hex_bytes, bytes_append, check_byte, check_sums, check_is}

-- ---- written, then read

-- the bytes of a line
abbrev pub whole : ℕ → List ℕ → List ℕ
whole kind payload = kind ∷ (payload ++ check_of (kind ∷ payload) ∷ [])

-- a line feed at the end is no digit
pub digits_of_line : (kind : ℕ) (payload : List ℕ) → digits_in (line_of kind payload) ≡ hex_of (whole kind payload)
digits_of_line kind payload =
    let ds = hex_of (whole kind payload) in
    let last : length (ds ++ 10 ∷ []) - 1 ≡ length ds = omega (arith, length_push ds 10) in
    let feed : eqb (get_or (ds ++ 10 ∷ []) (length (ds ++ 10 ∷ []) - 1) 0) 10 ≡ true = ap (λ c. eqb c 10) (get_or_at ds 10 [] 0 (length (ds ++ 10 ∷ []) - 1) (sym last)) in
    cond-true (eqb (get_or (ds ++ 10 ∷ []) (length (ds ++ 10 ∷ []) - 1) 0) 10) (take (length (ds ++ 10 ∷ []) - 1) (ds ++ 10 ∷ [])) (ds ++ 10 ∷ []) feed
    ∙ take_at ds (10 ∷ []) (length (ds ++ 10 ∷ []) - 1) (sym last)

module _ (kind : ℕ) (payload : List ℕ) (byte : kind < 256) (bytes : Bytes payload) (fits : check_kind kind (length payload) (Ok tt) ≡ Ok tt) where
  abbrev ds : List ℕ
  ds = hex_of (whole kind payload)

  whole_bytes : Bytes (whole kind payload)
  whole_bytes = (byte, All-append (λ b. b < 256) payload (check_of (kind ∷ payload) ∷ []) bytes (check_byte (kind ∷ payload), tt))

  back : bytes_of ds ≡ whole kind payload
  back = bytes_hex (whole kind payload) whole_bytes

  long : length (whole kind payload) ≡ length payload + 2
  long = let e = length_push payload (check_of (kind ∷ payload)) in omega arith

  paired : Paired ds
  paired = let h = length_hex (whole kind payload) in let l = long in (hex_digits (whole kind payload) whole_bytes, omega arith, omega arith)

  pub faultless : check_digits ds ≡ Ok tt
  faultless =
      let n : length (bytes_of ds) - 2 ≡ length payload = let l = long in omega (arith, ap length back) in
      right_check ds paired (ap (λ l. sum l % 256) back ∙ check_sums (kind ∷ payload))
      ∙ ap₂ (λ k m. check_kind k m (Ok tt)) (ap (λ l. get_or l 0 0) back) n ∙ fits

  payload_digits : take (length ds - 4) (drop 2 ds) ≡ hex_of payload
  payload_digits =
      let check = hex_of (check_of (kind ∷ payload) ∷ []) in
      let l = long in
      let h = length_hex (whole kind payload) in
      let p = length_hex payload in
      ap (take (length ds - 4)) (hex_append payload (check_of (kind ∷ payload) ∷ [])) ∙ take_at (hex_of payload) check (length ds - 4) (omega arith)

  pub written_reads : ReadsAs (line_of kind payload) kind payload
  written_reads place r reading = answer r (subst (λ d. DigitsRead d place r) (digits_of_line kind payload) reading)
    where
      answer : (r : Result Frame Refusal) → DigitsRead ds place r → MatchResult r (λ f. (kind_of f ≡ kind) × (payload_of f ≡ payload) × (place_of f ≡ place)) (λ _. ⊥)
      answer (Ok f) (none, (k, d, p)) = (k ∙ ap (λ l. get_or l 0 0) back, ap bytes_of (d ∙ payload_digits) ∙ bytes_hex payload bytes, p)
      answer (Err why) (refused, u) = false≢true (ap is_ok (sym refused ∙ faultless))

-- ---- read, then written

-- the bytes of digits are those of the kind, of the payload and of the check byte
parts : (ds : List ℕ) → Paired ds → bytes_of ds ≡ kind_in ds ∷ (bytes_of (take (length ds - 4) (drop 2 ds)) ++ bytes_of (drop (length ds - 2) ds))
parts [] (all, even, four) = absurd (omega arith)
parts (a ∷ []) (all, even, four) = absurd (omega arith)
parts (a ∷ (b ∷ cs)) (all, even, four) =
    let front = take (length cs - 2) cs in
    let back = drop (length cs - 2) cs in
    let long : length front ≡ length cs - 2 = length-take-le (length cs - 2) cs (omega arith) in
    let before : length cs - 2 ≡ length (a ∷ (b ∷ cs)) - 4 = omega arith in
    let after : suc (suc (length cs - 2)) ≡ length (a ∷ (b ∷ cs)) - 2 = omega arith in
    ap (λ l. kind_in (a ∷ (b ∷ cs)) ∷ l) (ap bytes_of (sym (take-append-drop (length cs - 2) cs)) ∙ bytes_append front back (omega arith))
    ∙ ap₂ (λ i j. kind_in (a ∷ (b ∷ cs)) ∷ (bytes_of (take i cs) ++ bytes_of (drop j (a ∷ (b ∷ cs))))) before after

-- two digits are one byte
one_byte : (ds : List ℕ) → length ds ≡ 2 → (c : ℕ) × (c < 256) × (bytes_of ds ≡ c ∷ [])
one_byte [] e = absurd (omega arith)
one_byte (a ∷ []) e = absurd (omega arith)
one_byte (a ∷ (b ∷ [])) e = let high = number_small a in let low = number_small b in (number_of a * 16 + number_of b, omega arith, refl)
one_byte (a ∷ (b ∷ (c ∷ cs))) e = absurd (omega arith)

pub read_writes : (ds : List ℕ) → Paired ds → sum (bytes_of ds) % 256 ≡ 0 → line_of (kind_in ds) (bytes_of (take (length ds - 4) (drop 2 ds))) ≡ ds ++ 10 ∷ []
read_writes ds (all, even, four) right =
    let kind = kind_in ds in
    let payload = bytes_of (take (length ds - 4) (drop 2 ds)) in
    let (c, small, last) = one_byte (drop (length ds - 2) ds) (length-drop (length ds - 2) ds ∙ omega arith) in
    let is : bytes_of ds ≡ kind ∷ (payload ++ c ∷ []) = parts ds (all, even, four) ∙ ap (λ l. kind ∷ (payload ++ l)) last in
    let check : c ≡ check_of (kind ∷ payload) = check_is (kind ∷ payload) c small (ap (λ l. sum l % 256) (sym is) ∙ right) in
    ap (λ x. hex_of (kind ∷ (payload ++ x ∷ [])) ++ 10 ∷ []) (sym check)
    ∙ ap (λ l. hex_of l ++ 10 ∷ []) (sym is)
    ∙ ap (λ l. l ++ 10 ∷ []) (hex_bytes ds all even)

-- what makes up a line in which nothing is wrong
pub faultless_parts : (ds : List ℕ) → check_digits ds ≡ Ok tt → Paired ds × (sum (bytes_of ds) % 256 ≡ 0)
faultless_parts ds none =
    let kind_checked = check_kind (kind_in ds) (length (bytes_of ds) - 2) (Ok tt) in
    let wrong = not (eqb (sum (bytes_of ds) % 256) 0) in
    let odd_or_short = eqb (length ds % 2) 1 || ltb (length ds) 4 in
    let (digits, one) = accepted_past_if (not (all_digits ds)) Foreign (refuse_if odd_or_short OddOrShort (refuse_if wrong WrongCheck kind_checked)) none in
    let (pairs, two) = accepted_past_if odd_or_short OddOrShort (refuse_if wrong WrongCheck kind_checked) one in
    let (check, three) = accepted_past_if wrong WrongCheck kind_checked two in
    let (even, four) = or_parts (eqb (length ds % 2) 1) (ltb (length ds) 4) pairs in
    let ne : length ds % 2 ≡ 1 → ⊥ = eqb-false (length ds % 2) 1 even in
    ((not-false (all_digits ds) digits, omega arith, ltb-false (length ds) 4 four), eqb-true _ 0 (not-false _ check))

-- a frame that was read, written as a line
pub frame_writes : (line : List ℕ) (place : ℕ) (f : Frame) → Reads line place (Ok f) → line_of (kind_of f) (payload_of f) ≡ digits_in line ++ 10 ∷ []
frame_writes line place f (none, (k, d, p)) =
    let (paired, right) = faultless_parts (digits_in line) none in
    ap₂ (λ x l. line_of x (bytes_of l)) k d ∙ read_writes (digits_in line) paired right

pub result_writes : (line : List ℕ) (place : ℕ) (r : Result Frame Refusal) → Reads line place r → IfOk r (λ f. line_of (kind_of f) (payload_of f) ≡ digits_in line ++ 10 ∷ [])
result_writes line place (Ok f) reading = frame_writes line place f reading
result_writes line place (Err refusal) reading = tt
