-- Kinds of weight: what they share.
--   Addition           a neutral weight and an addition
--   CommutativeMonoid  the addition gives the same in any bracketing and order, and the neutral weight adds nothing
--   Inverts            a weight plus its inverse is the neutral weight
use Rattle.std.specs.Prelude.{◌≡◌}

pub record Addition (W : Type 0) : Type 0 where
  pub neutral : W
  pub plus : W → W → W

pub record CommutativeMonoid {W : Type 0} (a : Addition W) : Type 0 where
  pub associative : (x y z : W) → a.plus (a.plus x y) z ≡ a.plus x (a.plus y z)
  pub commutative : (x y : W) → a.plus x y ≡ a.plus y x
  pub unit : (x : W) → a.plus a.neutral x ≡ x

abbrev pub Inverts : {W : Type 0} → Addition W → (W → W) → Type 0
Inverts {W} a minus = (x : W) → a.plus x (minus x) ≡ a.neutral
