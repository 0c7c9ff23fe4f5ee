use Rattle.std.proofs.Common.{◌≡◌, None}
use Rattle.net.specs.Lowest.{lowest}
use Rattle.net.specs.Nets.{drawn}
use Rattle.fold.specs.Fusions.{touches, contains, place_fusible}
use Rattle.fold.proofs.Soles.{other}
use Rattle.fold.proofs.finding.fusible_transition.Given as goal

abbrev pub invariant-loop-u : goal.invariant-loop-u
invariant-loop-u l = lowest l.u (other (λ u. contains (touches (drawn l.net) u) (touches (drawn l.net) l.t)) l.t) ≡ None

abbrev pub invariant-next : goal.invariant-next
invariant-next l = lowest l.t (place_fusible (drawn l.net)) ≡ None
