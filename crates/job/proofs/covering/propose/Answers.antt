use Rattle.std.proofs.Common.{◌+◌, length, ap, ◌∙◌, ap₂}
use Rattle.std.proofs.lemmas.List.{length_push}
use Rattle.cover.specs.Bare.{propose_outcome}
use Rattle.cover.specs.Sheets.{sheet_net, sheet_strands}
use Rattle.job.specs.Standings.{on_sheet}
use Rattle.job.specs.declared.state.State.TheVariants.{OnSheet}
use Rattle.job.proofs.Replying.{gives_accepted}
use Rattle.job.proofs.covering.propose.Goals as goal

pub returns-in-Ok : goal.returns-in-Ok
returns-in-Ok c =
    let sheet = c.args.sheet in
    let set = c.args.set in
    let (net, strands) = c.in-Ok.ensures.after in
    gives_accepted (propose_outcome (sheet_net sheet) (sheet_strands sheet) set) (length (sheet_strands sheet) + 1) c.count-count.result _ _ (OnSheet c.propose.new.self)
    c.in-Ok.ensures.answer (ap₂ on_sheet net strands) (c.count-count.ensures ∙ ap length strands ∙ length_push (sheet_strands sheet) set)
