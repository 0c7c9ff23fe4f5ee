use Rattle.board.proofs.Rows.{Switching}
use Rattle.board.proofs.relays.Relays.switch.Given as goal

abbrev pub invariant-loop-n : goal.invariant-loop-n
invariant-loop-n l = Switching l.set l.n l.initial.relay-items l.relay-items
