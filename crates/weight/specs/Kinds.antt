-- The kinds of weight that there are.
--   carriers  whole numbers modulo 2 ^ 32, added so
--   opposite  the inverse of a number of carriers
--   keys      sets of keys, added by exclusive or: what is in one of two sets and not in both
--   itself    the inverse of a set of keys, which is the set again
use Rattle.std.specs.Prelude.{◌+◌, ◌-◌, ◌%◌, ◌^◌, bit_xor}
use Rattle.std.proofs.lemmas.Nat.{mod_below, pow_pos}
use Rattle.weight.specs.Additions.{Addition}
use Rattle.weight.specs.declared.carriers.Carriers.{Carriers}
use Rattle.weight.specs.declared.keys.Keys.{Keys}

abbrev pub carriers : Addition Carriers
carriers = record {
  neutral = record { count = 0; fits = pow_pos 32 };
  plus = λ x y. record { count = (x.count + y.count) % 2 ^ 32; fits = mod_below _ _ (pow_pos 32) };
}

abbrev pub opposite : Carriers → Carriers
opposite x = record { count = (2 ^ 32 - x.count) % 2 ^ 32; fits = mod_below _ _ (pow_pos 32) }

abbrev pub keys : Addition Keys
keys = record {
  neutral = 0;
  plus = λ x y. bit_xor x y;
}

abbrev pub itself : Keys → Keys
itself x = x
