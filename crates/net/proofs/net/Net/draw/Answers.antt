use Rattle.net.proofs.Drawn.{arcs_none, ended_none, drawn_bare}
use Rattle.net.proofs.net.Net.draw.Goals as goal

pub invariant_of-self-clause-arced : goal.invariant_of-self-clause-arced
invariant_of-self-clause-arced c = arcs_none c.args.places 64

pub invariant_of-self-clause-ended : goal.invariant_of-self-clause-ended
invariant_of-self-clause-ended c = ended_none c.args.transitions 64

pub returns-clause-after : goal.returns-clause-after
returns-clause-after c = drawn_bare _ _ _
