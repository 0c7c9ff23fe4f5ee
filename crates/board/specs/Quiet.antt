-- A signal keeps the lit set, where the board below keeps its own.
--   gate_quiet     of a gate
--   turned_quiet   of a turned board
use Rattle.std.specs.Prelude.{◌≡◌, ℕ, Bool, true, false, cond, ◌==◌}
use Rattle.std.proofs.Common.{ap, ap₂}
use Rattle.board.specs.Guards.{gate_lit, Signalled as GateSignalled}
use Rattle.board.specs.Turns.{turn, turned_lit, Signalled as TurnedSignalled}
use Rattle.board.specs.declared.gate.Gate.{Gate}
use Rattle.board.specs.declared.turned.Turned.{Turned}

module _ {B : Type 0} (lit : B → ℕ) (signalled : B → ℕ → ℕ → B → Type 0) (quiet : (b : B) (channel event : ℕ) (after : B) → signalled b channel event after → lit after ≡ lit b) where
  -- the board below, which is left alone on the gate's own channel
  below_quiet : (own : Bool) (b : B) (channel event : ℕ) (after : B) (stepped stayed : Type 0) → cond own (stepped × (after ≡ b)) (stayed × signalled b channel event after) → lit after ≡ lit b
  below_quiet true b channel event after stepped stayed did = ap lit did.1
  below_quiet false b channel event after stepped stayed did = quiet b channel event after did.1

  pub gate_quiet : (g : Gate B) (channel event : ℕ) (after : Gate B) → GateSignalled signalled g channel event after → gate_lit lit after ≡ gate_lit lit g
  gate_quiet g channel event after did = below_quiet (channel == g.channel) g.below channel event after.below _ _ did.1

  pub turned_quiet : (t : Turned B) (channel event : ℕ) (after : Turned B) → TurnedSignalled signalled t channel event after → turned_lit lit after ≡ turned_lit lit t
  turned_quiet t channel event after did = ap₂ turn (quiet t.below channel event after.below did.1) did.0
