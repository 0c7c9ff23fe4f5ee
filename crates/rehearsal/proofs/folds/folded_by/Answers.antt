use Rattle.std.proofs.Common.{◌↔◌, subst}
use Rattle.fold.specs.Foldings.{folded_net}
use Rattle.fold.proofs.Facts.{folded_keeps_covers}
use Rattle.net.specs.Nets.{PetriNet}
use Rattle.net.specs.Strands.{HasCover}
use Rattle.rehearsal.proofs.folds.folded_by.Goals as goal

pub returns-clause-covers : goal.returns-clause-covers
returns-clause-covers c =
    let f = c.loop-call.folded in
    subst (λ (m : PetriNet). HasCover (folded_net f) ↔ HasCover m) c.loop-call.invariant.0 (folded_keeps_covers f)
