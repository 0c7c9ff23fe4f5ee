-- The set of 64 relays is a set of 64 lines.
--   relays_on_below  the set of k relays is a set of k lines
--   relays_on_fits   and that of 64 a set of 64
use Rattle.std.specs.Prelude.{◌≡◌, ◌+◌, ◌*◌, ◌^◌, ◌<◌, suc, Bool, true, false, cond, List, [], ◌∷◌, length}
use Rattle.std.proofs.Common.{subst, pow-suc, arith}
use Rattle.board.specs.Wear.{relays_on}
use Rattle.board.specs.declared.relays.relay.Relay.{Relay}

relays_on_below : (rs : List Relay) → relays_on rs < 2 ^ length rs
relays_on_below [] = omega arith
relays_on_below (r ∷ rs) = step r.on (relays_on_below rs)
  where
    step : (b : Bool) → relays_on rs < 2 ^ length rs → relays_on rs * 2 + cond b 1 0 < 2 ^ suc (length rs)
    step true lt = omega (arith, pow-suc 2 (length rs))
    step false lt = omega (arith, pow-suc 2 (length rs))

pub relays_on_fits : (rs : List Relay) → length rs ≡ 64 → relays_on rs < 2 ^ 64
relays_on_fits rs long = subst (λ k. relays_on rs < 2 ^ k) long (relays_on_below rs)
