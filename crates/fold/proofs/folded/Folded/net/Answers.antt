use Rattle.fold.proofs.Facts.{folded_keeps_covers}
use Rattle.fold.proofs.folded.Folded.net.Goals as goal

pub returns-clause-covers : goal.returns-clause-covers
returns-clause-covers c = folded_keeps_covers c.args.self.now
