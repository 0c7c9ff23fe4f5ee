use Rattle.std.proofs.Common.{◌≡◌}
use Rattle.fold.specs.Foldings.{folded_original, folded_net}
use Rattle.fold.specs.Steps.{folding}
use Rattle.net.specs.Nets.{drawn}
use Rattle.rehearsal.proofs.folds.folded_by.Given as goal

abbrev pub invariant-loop-call : goal.invariant-loop-call
invariant-loop-call l = (folded_original l.folded ≡ drawn l.net) × (folded_net l.folded ≡ folding (drawn l.net) l._call)
