-- Writing a line into memory.
--   check_write   what is wrong with a kind, a payload and the length of the memory, if anything
--   Writes        refused, and the memory as it was; or the length of the line, which is in front, with the memory past it as it was
use Rattle.std.specs.Prelude.{◌≡◌, ℕ, List, ◌++◌, length, drop, Ok, Result, nat_lt}
use Rattle.refusal.specs.declared.Refusal.{Refusal}
use Rattle.refusal.specs.declared.Refusal.TheVariants.{MemoryTooShort}
use Rattle.refusal.specs.Outcomes.{Outcome, refuse_if, Tells}
use Rattle.frame.specs.Lines.{check_kind, line_of}

abbrev pub check_write : ℕ → List ℕ → ℕ → Outcome
check_write kind payload room = check_kind kind (length payload) (refuse_if (nat_lt room (length (line_of kind payload))) MemoryTooShort (Ok tt))

abbrev pub Writes : ℕ → List ℕ → List ℕ → Result ℕ Refusal → List ℕ → Type 0
Writes kind payload before r after =
    Tells (check_write kind payload (length before)) r (λ n. (n ≡ length (line_of kind payload)) × (after ≡ line_of kind payload ++ drop n before)) (after ≡ before)
