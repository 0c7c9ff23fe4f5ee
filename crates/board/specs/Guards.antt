-- The gate: its guard, its shut channel and what signals do to it.
--   on          the state for an event, or another for any other event
--   stepped     the guard after an event: the one table of states and events
--   shut_by     the shut channel, by the guard
--   gate_lit    the lit set of a gate
--   gate_shut   the shut channel of a gate
--   SameGuard   two gates with one channel and one state
--   Signalled   what a signal does to a gate
use Rattle.std.specs.Prelude.{◌≡◌, ℕ, cond, Some, Option, ◌==◌}
use Rattle.board.specs.declared.gate.Guard.{Guard}
use Rattle.board.specs.declared.gate.Guard.TheVariants.{Ready, Tripped, Waiting}
use Rattle.board.specs.declared.gate.Gate.{Gate}

abbrev on : ℕ → ℕ → Guard → Guard → Guard
on event e then other = cond (event == e) then other

-- a state leaves only by the events of its row
abbrev pub stepped : Guard → ℕ → Guard
stepped Ready event = on event 1 Tripped Ready
stepped Tripped event = on event 1 Tripped (on event 2 Waiting Tripped)
stepped Waiting event = on event 1 Tripped (on event 3 Ready Waiting)

-- its own channel unless it is Ready, and else that of the board below
abbrev pub shut_by : Guard → ℕ → Option ℕ → Option ℕ
shut_by Ready channel below = below
shut_by Tripped channel below = Some channel
shut_by Waiting channel below = Some channel

module _ {B : Type 0} where
  abbrev pub gate_lit : (B → ℕ) → Gate B → ℕ
  gate_lit lit g = lit g.below

  abbrev pub gate_shut : (B → Option ℕ) → Gate B → Option ℕ
  gate_shut closed g = shut_by g.guard g.channel (closed g.below)

  abbrev pub SameGuard : Gate B → Gate B → Type 0
  SameGuard before after = (after.channel ≡ before.channel) × (after.guard ≡ before.guard)

  -- on its own channel the guard steps and the board below is left alone; on another the guard stays and the signal goes to the board below
  abbrev pub Signalled : (B → ℕ → ℕ → B → Type 0) → Gate B → ℕ → ℕ → Gate B → Type 0
  Signalled signalled before channel event after =
      (after.channel ≡ before.channel)
      × cond (channel == before.channel)
      ((after.guard ≡ stepped before.guard event) × (after.below ≡ before.below))
      ((after.guard ≡ before.guard) × signalled before.below channel event after.below)
