use Rattle.std.proofs.Common.{ap}
use lib.Bits.{bit_or}
use Rattle.board.proofs.Complements.{complement_difference}
use Rattle.board.proofs.sets.exchanged.Goals as goal

pub returns : goal.returns
returns c = ap (λ s. bit_or s c.args.light) (complement_difference 64 c.args.set c.args.dark c.ranges.set.fits c.ranges.dark.fits)
