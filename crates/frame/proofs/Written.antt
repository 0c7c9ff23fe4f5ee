-- What can be wrong with a line that is to be written.
use Rattle.std.proofs.Common.{◌≡◌, ℕ, ◌<◌, Bool, not, ltb, List, length, is_some, Some, Ok, Err, ap, ◌∙◌}
use Rattle.std.proofs.lemmas.Bool.{eq-eqb, lt-ltb}
use Rattle.refusal.specs.declared.Refusal.TheVariants.{UnknownKind, WrongLength, MemoryTooShort}
use Rattle.refusal.specs.Outcomes.{Outcome, refuse_if}
use Rattle.refusal.proofs.Outcomes.{refuse_applies, refuse_passed}
use Rattle.frame.specs.Kinds.{payload_length}
use Rattle.frame.specs.Lines.{is_this, is_long, check_kind, line_of}
use Rattle.frame.specs.Writings.{check_write}

module _ (kind : ℕ) (payload : List ℕ) (bytes : ℕ) (known : payload_length kind ≡ Some bytes) (long : length payload ≡ bytes) where
  -- nothing is wrong with the kind, whatever comes next
  passed : (next : Outcome) → check_kind kind (length payload) next ≡ next
  passed next =
      refuse_passed (not (is_some (payload_length kind))) UnknownKind (refuse_if (not (is_long kind (length payload))) WrongLength next) (ap (λ o. not (is_some o)) known)
      ∙ refuse_passed (not (is_long kind (length payload))) WrongLength next (ap (λ o. not (is_this (length payload) o)) known ∙ ap not (eq-eqb (length payload) bytes long))

  pub kind_fits : check_kind kind (length payload) (Ok tt) ≡ Ok tt
  kind_fits = passed (Ok tt)

  module _ (room : ℕ) where
    abbrev short : Bool
    short = ltb room (length (line_of kind payload))

    pub too_short : room < length (line_of kind payload) → check_write kind payload room ≡ Err MemoryTooShort
    too_short lt = passed (refuse_if short MemoryTooShort (Ok tt)) ∙ refuse_applies short MemoryTooShort (Ok tt) (lt-ltb room (length (line_of kind payload)) lt)
