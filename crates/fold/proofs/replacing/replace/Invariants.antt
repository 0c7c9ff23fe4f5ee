use Rattle.net.specs.Nets.{drawn}
use Rattle.fold.specs.Fusions.{replaced}
use Rattle.fold.proofs.Parts.{Replaced-below}
use Rattle.fold.proofs.replacing.replace.Given as goal

abbrev pub invariant-loop-t : goal.invariant-loop-t
invariant-loop-t l = Replaced-below (replaced (drawn l.net) l.transition l.note.place l.note.set) l.t (drawn l.after)
