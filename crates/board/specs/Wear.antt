-- The relay board: the states of its relays, and how they wear.
--   unused      a relay that is off and has never changed
--   worn        the wear of a relay that has a state and is set to a state
--   switched    a relay after it is set to a state
--   relay_at    relay n of a list; where there is none, an unused one
--   relays_on   the set of the relays that are on
--   Switched    each of the 64 relays is set on where the set has it, and else off
use Rattle.std.specs.Prelude.{◌≡◌, ℕ, ◌+◌, ◌-◌, ◌*◌, ◌^◌, ◌<◌, min, Bool, true, false, cond, List, [], ◌∷◌, slice_index_or}
use Rattle.net.specs.Sets.{has}
use Rattle.board.specs.declared.relays.relay.Relay.{Relay}

abbrev pub unused : Relay
unused = record { on = false; wear = 0 }

-- one more where the states differ, up to the largest number of 32 bits
abbrev pub worn : Bool → Bool → ℕ → ℕ
worn true true wear = wear
worn true false wear = min (wear + 1) (2 ^ 32 - 1)
worn false true wear = min (wear + 1) (2 ^ 32 - 1)
worn false false wear = wear

abbrev pub switched : Bool → Relay → Relay
switched on relay = record { on = on; wear = worn relay.on on relay.wear }

abbrev pub relay_at : List Relay → ℕ → Relay
relay_at relays n = slice_index_or relays n unused

-- the first is worth 1, and each later one twice as much as the one before it
abbrev pub relays_on : List Relay → ℕ
relays_on [] = 0
relays_on (relay ∷ relays) = relays_on relays * 2 + cond relay.on 1 0

abbrev pub Switched : ℕ → List Relay → List Relay → Type 0
Switched set before after = (n : ℕ) → n < 64 → relay_at after n ≡ switched (has set n) (relay_at before n)
