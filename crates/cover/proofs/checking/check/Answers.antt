use Rattle.std.proofs.Common.{Ok, Err, rules}
use Rattle.refusal.specs.declared.Refusal.TheVariants.{NotEvenOrNotThin}
use Rattle.net.specs.Nets.{drawn}
use Rattle.cover.proofs.Passing.{strand_cases}
use Rattle.cover.proofs.checking.check.Goals as goal

pub returns-in-Some-clause-strand : goal.returns-in-Some-clause-strand
returns-in-Some-clause-strand c = strand_cases (drawn c.args.net.now) c.args.set (Err (NotEvenOrNotThin c.in-Some.transition)) (search rules)

pub returns-in-None-clause-strand : goal.returns-in-None-clause-strand
returns-in-None-clause-strand c = strand_cases (drawn c.args.net.now) c.args.set (Ok tt) (search rules)
