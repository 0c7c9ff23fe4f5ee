-- What a call that may be refused comes to.
--   Outcome     done, or the refusal
--   refuse_if   refused where the condition holds, and else what comes next; a chain of these gives the first refusal that applies
--   refuse_at   refused with what was found, and else what comes next
--   and_then    the first refusal of two
--   Accepts     the call is accepted exactly where the fact holds
--   Tells       a call answers by an outcome: it is refused just as that is, and leaves things unchanged; else it gives what is promised
use Rattle.std.specs.Prelude.{◌≡◌, ℕ, Bool, true, false, Some, None, Ok, Err, Option, Result}
use Rattle.refusal.specs.declared.Refusal.{Refusal}

abbrev pub Outcome : Type 0
Outcome = Result (Unit {0}) Refusal

abbrev pub refuse_if : Bool → Refusal → Outcome → Outcome
refuse_if true why next = Err why
refuse_if false why next = next

abbrev pub refuse_at : Option ℕ → (ℕ → Refusal) → Outcome → Outcome
refuse_at (Some found) why next = Err (why found)
refuse_at None why next = next

abbrev pub and_then : Outcome → Outcome → Outcome
and_then (Err why) next = Err why
and_then (Ok _) next = next

abbrev pub Accepts : Outcome → Type 0 → Type 0
Accepts (Ok _) fact = fact
Accepts (Err _) fact = fact → ⊥

abbrev pub Tells : {A : Type 0} → Outcome → Result A Refusal → (A → Type 0) → Type 0 → Type 0
Tells outcome (Ok x) promised unchanged = (outcome ≡ Ok tt) × promised x
Tells outcome (Err why) promised unchanged = (outcome ≡ Err why) × unchanged
