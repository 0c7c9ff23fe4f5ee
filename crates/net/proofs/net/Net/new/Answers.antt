use Rattle.std.proofs.Common.{rules}
use Rattle.net.proofs.Drawn.{arcs_none, ended_none, drawn_bare}
use Rattle.net.proofs.net.Net.new.Goals as goal

pub invariant_of-result : goal.invariant_of-result
invariant_of-result c = search (rules, arcs_none, ended_none)

pub returns : goal.returns
returns c = drawn_bare _ _ _
