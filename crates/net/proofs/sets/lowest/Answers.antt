use Rattle.std.proofs.Common.{◌<◌, arith}
use Rattle.net.proofs.Trailing.{trailing_lowest}
use Rattle.net.proofs.sets.lowest.Goals as goal

pub returns-else-set-eq0 : goal.returns-else-set-eq0
returns-else-set-eq0 c = let none = c.if-set-eq0.false in let some : 0 < c.args.set = omega arith in trailing_lowest 64 c.args.set some c.ranges.set.fits
