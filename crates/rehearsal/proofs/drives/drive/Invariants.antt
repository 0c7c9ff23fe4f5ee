use Rattle.std.proofs.Common.{◌≡◌, take}
use Rattle.cover.specs.Certificates.{certified_net, certified_strands}
use Rattle.run.specs.Log.{calls}
use Rattle.run.specs.States.{state_of, certified_of, Chain}
use Rattle.rehearsal.proofs.drives.drive.Given as goal

-- the certified net and the calls are as they were, and the lines went from where the run started by the calls so far
abbrev pub invariant-loop-entry : goal.invariant-loop-entry
invariant-loop-entry g l =
    let n = certified_net (certified_of l.initial.run) in
    let strands = certified_strands (certified_of l.initial.run) in
    (certified_of l.run ≡ certified_of l.initial.run)
    × (calls l.log ≡ calls l.initial.log)
    × Chain g.B.Lines.lit g.B.Board.closed g.B.Board.signalled g.W.Weight.addition n strands l.weights (state_of l.initial.run) (take l.entry-index l.log) (state_of l.run)
