use Rattle.std.proofs.Common.{◌∙◌}
use Rattle.board.proofs.Rows.{has_relays_on}
use Rattle.board.proofs.relays.board.RelaysLines.TheImpl.Goals as goal

pub read-tells : goal.read-tells
read-tells c = c.ensures.relay ∙ has_relays_on c.args.self.now.relays c.args.line
