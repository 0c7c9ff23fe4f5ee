use Rattle.board.proofs.Turning.{turned_line}
use Rattle.board.proofs.turned.board.TurnedLines.read.Goals as goal

pub returns : goal.returns
returns g c = turned_line _ _ _ _ _ c.read.ensures c.has.ensures
