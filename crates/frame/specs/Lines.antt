-- Lines of a job, and the bytes that they stand for.
--   digits_in       the digits of a line: all of it but a line feed at its end
--   kind_in         the kind that the first two digits stand for
--   payload_in      the payload: the bytes between the kind and the check byte
--   check_of        the check byte: with it the bytes sum to 0 modulo 256
--   line_of         the line of a kind and a payload: kind, payload and check byte in digits, and a line feed
--   is_long         whether a payload of n bytes is as long as its kind asks
--   check_kind      refused where there is no such kind or its payload is not so long, and else what comes next
--   check_digits    what is wrong with the digits of a line, if anything
use Rattle.std.specs.Prelude.{ℕ, ◌-◌, ◌%◌, Bool, false, cond, not, ◌||◌, List, [], ◌∷◌, ◌++◌, length, take, drop, is_some, Some, None, Ok, sum, Option, ◌==◌, nat_lt, slice_index}
use Rattle.refusal.specs.declared.Refusal.TheVariants.{Foreign, OddOrShort, WrongCheck, UnknownKind, WrongLength}
use Rattle.refusal.specs.Outcomes.{Outcome, refuse_if}
use Rattle.frame.specs.Kinds.{payload_length}
use Rattle.frame.specs.Digits.{all_digits, bytes_of, hex_of}

abbrev pub digits_in : List ℕ → List ℕ
digits_in line = cond (slice_index line (length line - 1) == 10) (take (length line - 1) line) line

abbrev pub kind_in : List ℕ → ℕ
kind_in ds = slice_index (bytes_of ds) 0

abbrev pub payload_in : List ℕ → List ℕ
payload_in ds = bytes_of (take (length ds - 4) (drop 2 ds))

abbrev pub check_of : List ℕ → ℕ
check_of bytes = (256 - sum bytes % 256) % 256

abbrev pub line_of : ℕ → List ℕ → List ℕ
line_of kind payload = hex_of (kind ∷ (payload ++ check_of (kind ∷ payload) ∷ [])) ++ 10 ∷ []

abbrev pub is_this : ℕ → Option ℕ → Bool
is_this n None = false
is_this n (Some m) = n == m

abbrev pub is_long : ℕ → ℕ → Bool
is_long kind n = is_this n (payload_length kind)

abbrev pub check_kind : ℕ → ℕ → Outcome → Outcome
check_kind kind n next = refuse_if (not (is_some (payload_length kind))) UnknownKind (refuse_if (not (is_long kind n)) WrongLength next)

abbrev pub check_digits : List ℕ → Outcome
check_digits ds =
    refuse_if (not (all_digits ds)) Foreign (
    refuse_if (length ds % 2 == 1 || nat_lt (length ds) 4) OddOrShort (
    refuse_if (not (sum (bytes_of ds) % 256 == 0)) WrongCheck (
    check_kind (kind_in ds) (length (bytes_of ds) - 2) (Ok tt))))
