use Rattle.board.proofs.Turning.{turned_laid, turned_exchanged}
use Rattle.board.proofs.turned.board.TurnedBoard.TheImpl.Goals as goal

pub lay-tells : goal.lay-tells
lay-tells g c = turned_laid g.B.Lines.lit g.B.Board.closed c.args.self.now c.new.self.now c.ensures.kept c.args.set c.ensures.below

pub exchange-tells : goal.exchange-tells
exchange-tells g c = turned_exchanged g.B.Lines.lit g.B.Board.closed c.args.self.now c.new.self.now c.ensures.kept c.args.dark c.args.light c.result c.ensures.below
