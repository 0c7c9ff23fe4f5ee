use Rattle.board.proofs.Rows.{switching_all}
use Rattle.board.proofs.relays.Relays.switch.Goals as goal

pub returns-clause-lines : goal.returns-clause-lines
returns-clause-lines c = switching_all c.args.set c.loop-n.n c.args.self.now.relays c.loop-n.relay-items c.ranges.set.fits c.loop-n-test.false c.loop-n.invariant
