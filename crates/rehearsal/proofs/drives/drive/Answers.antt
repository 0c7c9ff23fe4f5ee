use Rattle.std.proofs.Common.{◌<◌, ◌≤◌, List, length, get_or, take, ◌∙◌, subst, add-one, arith, take_all, take-suc-set}
use Rattle.cover.specs.Certificates.{certified_net, certified_strands}
use Rattle.cover.specs.declared.certified.Certified.{Certified}
use Rattle.run.specs.States.{state_of, going_on, Step, Chain}
use Rattle.run.specs.declared.calls.Entry.{Entry}
use Rattle.run.proofs.Chains.{chain_more, calls_set}
use Rattle.run.proofs.Whole.{run_follows, run_weighs}
use Rattle.rehearsal.proofs.drives.drive.Goals as goal

pub loop-entry-preserved : goal.loop-entry-preserved
loop-entry-preserved g c =
    let lit = g.B.Lines.lit in
    let b = g.B.Board in
    let add = g.W.Weight.addition in
    let inv = c.loop-entry.invariant in
    let cert = c.start.result.certified in
    let log = c.loop-entry.log in
    let i = c.loop-entry.entry-index in
    let within : i < length log = omega arith in
    let entry : Entry g.row.W.Denot = record { call = (get_or log i c.entry-item.result).call; answer = c.step-next.result.1 } in
    let one : Step lit b.closed b.signalled add (certified_net cert) (certified_strands cert) c.args.weights.now entry.call entry.answer (state_of c.loop-entry.run) (state_of c.step-next.result.0) =
    subst (λ (x : Certified). Step lit b.closed b.signalled add (certified_net x) (certified_strands x) c.args.weights.now entry.call entry.answer (state_of c.loop-entry.run) (state_of c.step-next.result.0))
    inv.0 c.step-next.ensures.step in
    let longer = chain_more lit b.closed b.signalled add (certified_net cert) (certified_strands cert) c.args.weights.now
    (going_on c.start.result.board) (take i log) (state_of c.loop-entry.run) entry (state_of c.step-next.result.0) inv.2 one in (
      c.step-next.ensures.kept ∙ inv.0,
      calls_set log i c.entry-item.result c.step-next.result.1 within ∙ inv.1,
      rw (add-one, take-suc-set log i entry within) longer,
    )

pub returns : goal.returns
returns g c =
    let lit = g.B.Lines.lit in
    let b = g.B.Board in
    let w = g.W.Weight in
    let inv = c.loop-entry.invariant in
    let all : length c.loop-entry.log ≤ c.loop-entry.entry-index = omega arith in
    let chain : Chain lit b.closed b.signalled w.addition (certified_net c.args.certified) (certified_strands c.args.certified) c.args.weights.now (going_on c.start.result.board) c.loop-entry.log (state_of c.loop-entry.run) =
    subst (λ (x : Certified). Chain lit b.closed b.signalled w.addition (certified_net x) (certified_strands x) c.args.weights.now (going_on c.start.result.board) c.loop-entry.log (state_of c.loop-entry.run))
    c.start.ensures.held
    (subst (λ (l : List (Entry g.row.W.Denot)). Chain lit b.closed b.signalled w.addition (certified_net c.start.result.certified) (certified_strands c.start.result.certified) c.args.weights.now (going_on c.start.result.board) l (state_of c.loop-entry.run))
    (take_all _ _ all) inv.2) in
    let quiet = g.met.B.Board.quiet in
    let run = state_of c.loop-entry.run in
    record {
      certificate_kept = inv.0 ∙ c.start.ensures.held;
      calls_kept = inv.1;
      lines_follow_the_net = run_follows lit b.closed b.signalled w.addition quiet c.args.certified c.args.weights.now c.args.board c.start.result.board c.start.ensures.laid c.loop-entry.log run chain;
      weights_follow_the_fires = run_weighs lit b.closed b.signalled w.addition quiet c.args.certified c.args.weights.now c.args.board c.start.result.board c.start.ensures.laid c.loop-entry.log run chain
          w.minus g.met.W.Weight.monoid g.met.W.Weight.inverts;
    }
