-- Equality told by a number.
--   exact_by   where things with the same number are the same, a test of the numbers tells whether two things are the same
use Rattle.std.specs.Prelude.{◌≡◌, ℕ, Bool, ◌==◌, Decides}
use Rattle.std.proofs.Common.{ap}
use Rattle.std.proofs.lemmas.Bool.Decides.{Decides-eqb, Decides-at, Decides-like}

pub exact_by : {W : Type 0} (number : W → ℕ) → ((x y : W) → number x ≡ number y → x ≡ y) → (x y : W) (r : Bool) → r ≡ (number x == number y) → Decides r (x ≡ y)
exact_by number same x y r told = Decides-like r (same x y) (ap number) (Decides-at r _ told (Decides-eqb (number x) (number y)))
