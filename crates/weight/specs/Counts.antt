-- Carriers by their number, and the laws of their addition.
--   of                a number of carriers
--   same_count        as many carriers are the same carriers
--   carriers_monoid   in any bracketing and order they add up to as many
--   carriers_inverts  some carriers and their inverse are none
--   carriers_exact    the test of the numbers tells whether two numbers of carriers are equal
use Rattle.std.specs.Prelude.{◌≡◌, ℕ, ◌^◌, ◌<◌, Bool, ◌==◌, Decides}
use Rattle.std.proofs.Common.{subst, arith}
use Rattle.std.proofs.Math.Bridge.{le_prop}
use Rattle.weight.specs.Additions.{CommutativeMonoid, Inverts}
use Rattle.weight.specs.Exact.{exact_by}
use Rattle.weight.specs.Kinds.{carriers, opposite}
use Rattle.weight.specs.declared.carriers.Carriers.{Carriers}

abbrev of : (n : ℕ) → n < 2 ^ 32 → Carriers
of n f = record { count = n; fits = f }

pub same_count : (x y : Carriers) → x.count ≡ y.count → x ≡ y
same_count x y e = subst (λ n. (f : n < 2 ^ 32) → x ≡ of n f) e (λ f i. of x.count (le_prop x.fits f i)) y.fits

pub carriers_monoid : CommutativeMonoid carriers
carriers_monoid = record {
  associative = λ x y z. same_count _ _ (omega arith);
  commutative = λ x y. same_count _ _ (omega arith);
  unit = λ x. same_count _ _ (omega arith);
}

pub carriers_inverts : Inverts carriers opposite
carriers_inverts x = same_count _ _ (omega arith)

pub carriers_exact : (x y : Carriers) (r : Bool) → r ≡ (x.count == y.count) → Decides r (x ≡ y)
carriers_exact = exact_by (λ (x : Carriers). x.count) same_count
