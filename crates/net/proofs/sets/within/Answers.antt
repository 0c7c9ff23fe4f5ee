use Rattle.net.proofs.Trailing.{within_below}
use Rattle.net.proofs.sets.within.Goals as goal

pub returns : goal.returns
returns c = within_below c.args.set c.args.count c.below.result c.ranges.set.fits c.below.ensures
