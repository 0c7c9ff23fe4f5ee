use Rattle.std.proofs.Common.{sym, ◌∙◌}
use Rattle.std.proofs.lemmas.Bool.{le-ltb}
use Rattle.net.proofs.Members.{has_past}
use Rattle.net.proofs.sets.has.Goals as goal

pub returns-else-place-lt64 : goal.returns-else-place-lt64
returns-else-place-lt64 c = le-ltb _ _ c.if-place-lt64.false ∙ sym (has_past 64 c.args.set c.args.place c.ranges.set.fits c.if-place-lt64.false)
