-- Chains of refusals: what is known where none applied.
use Rattle.std.proofs.Common.{◌≡◌, ℕ, Bool, true, false, is_ok, Some, None, Ok, Err, Option, Result, sym, refl, ap, ◌∙◌}
use Rattle.std.proofs.lemmas.Bool.{false≢true}
use Rattle.refusal.specs.declared.Refusal.{Refusal}
use Rattle.refusal.specs.Outcomes.{Outcome, refuse_if, refuse_at, and_then, Tells}

-- the condition did not hold, and what comes next is no refusal
pub ok_past_if : (b : Bool) (why : Refusal) (next : Outcome) → is_ok (refuse_if b why next) ≡ true → (b ≡ false) × (is_ok next ≡ true)
ok_past_if true why next e = absurd (false≢true e)
ok_past_if false why next e = (refl, e)

-- nothing was found, and what comes next is no refusal
pub ok_past_at : (o : Option ℕ) (why : ℕ → Refusal) (next : Outcome) → is_ok (refuse_at o why next) ≡ true → (o ≡ None) × (is_ok next ≡ true)
ok_past_at (Some p) why next e = absurd (false≢true e)
ok_past_at None why next e = (refl, e)

-- neither is a refusal
pub ok_past_first : (first next : Outcome) → is_ok (and_then first next) ≡ true → (is_ok first ≡ true) × (is_ok next ≡ true)
ok_past_first (Ok x) next e = (refl, e)
ok_past_first (Err why) next e = absurd (false≢true e)

-- the refusal at the front applies, or is passed over
pub refuse_applies : (b : Bool) (why : Refusal) (next : Outcome) → b ≡ true → refuse_if b why next ≡ Err why
refuse_applies b why next e = ap (λ x. refuse_if x why next) e

pub refuse_passed : (b : Bool) (why : Refusal) (next : Outcome) → b ≡ false → refuse_if b why next ≡ next
refuse_passed b why next e = ap (λ x. refuse_if x why next) e

-- where a chain comes to no refusal, the one at the front does not apply, and none after it
pub accepted_past_if : (b : Bool) (why : Refusal) (next : Outcome) → refuse_if b why next ≡ Ok tt → (b ≡ false) × (next ≡ Ok tt)
accepted_past_if true why next e = absurd (false≢true (ap is_ok e))
accepted_past_if false why next e = (refl, e)

-- an answer by outcomes that are the same, with a promise that follows
pub tells_same : {A : Type 0} (first second : Outcome) (r : Result A Refusal) (P Q : A → Type 0) (U : Type 0) → first ≡ second → ((x : A) → P x → Q x) → Tells first r P U → Tells second r Q U
tells_same first second (Ok x) P Q U e f (none, h) = (sym e ∙ none, f x h)
tells_same first second (Err why) P Q U e f (is, h) = (sym e ∙ is, h)

pub accepted_past_at : (o : Option ℕ) (why : ℕ → Refusal) (next : Outcome) → refuse_at o why next ≡ Ok tt → (o ≡ None) × (next ≡ Ok tt)
accepted_past_at (Some p) why next e = absurd (false≢true (ap is_ok e))
accepted_past_at None why next e = (refl, e)
