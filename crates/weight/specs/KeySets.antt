-- Sets of keys as numbers, and the laws of their addition.
--   keys_monoid   in any bracketing and order they add up to the same keys
--   keys_inverts  a set of keys and itself are no keys
--   keys_exact    the test of the sets tells whether two sets of keys are equal
use Rattle.std.specs.Prelude.{◌≡◌, Bool, ◌==◌, Decides}
use Rattle.std.specs.Int.Bits.{xor_assoc, xor_zero_l, xor_self}
use Rattle.std.proofs.lemmas.Nat.{xor_comm}
use Rattle.weight.specs.Additions.{CommutativeMonoid, Inverts}
use Rattle.weight.specs.Exact.{exact_by}
use Rattle.weight.specs.Kinds.{keys, itself}
use Rattle.weight.specs.declared.keys.Keys.{Keys}

pub keys_monoid : CommutativeMonoid keys
keys_monoid = record {
  associative = xor_assoc;
  commutative = xor_comm;
  unit = xor_zero_l;
}

pub keys_inverts : Inverts keys itself
keys_inverts x = xor_self x

pub keys_exact : (x y : Keys) (r : Bool) → r ≡ (x == y) → Decides r (x ≡ y)
keys_exact = exact_by (λ (x : Keys). x) (λ x y e. e)
