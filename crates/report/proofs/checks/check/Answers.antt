use Rattle.std.proofs.Common.{◌≡◌, ◌+◌, cond, length, sym, ap, ◌∙◌, arith}
use Rattle.std.proofs.lemmas.List.{length-append}
use Rattle.frame.specs.Uncut.{uncut}
use Rattle.report.specs.Checks.{is_good}
use Rattle.report.proofs.Reports.{next_line}
use Rattle.report.proofs.checks.check.Goals as goal
use Rattle.report.proofs.checks.check.Goals.{then-branch, else-branch}

-- what the counts are after a turn
counted : (c : goal.Joined-branch) → (c.if-branch.good ≡ c.loop-line.good + cond (is_good c.in-Some.line.now) 1 0) × (c.if-branch.good + c.if-branch.bad ≡ c.loop-line.good + c.loop-line.bad + 1)
counted c =
    let is = c.in_ok-report_line.ensures.0 in
    elim c.if-branch.branch [
      | then-branch w ↦ (w.good-is ∙ ap (λ b. c.loop-line.good + cond b 1 0) (sym w.if-branch.true ∙ is), omega (arith, w.good-is, w.bad-is))
      | else-branch w ↦ (w.good-is ∙ omega arith ∙ ap (λ b. c.loop-line.good + cond b 1 0) (sym w.if-branch.false ∙ is), omega (arith, w.good-is, w.bad-is))
    ]

pub loop-line-preserved : goal.loop-line-preserved
loop-line-preserved c =
    let inv = c.loop-line.invariant in
    let (some, cut) = c.in-Some.ensures.steps in
    let (good, one) = counted c in
    let long = sym (ap length cut.whole) ∙ length-append c.in-Some.line.now (uncut c.next.new.self) in
    let line = cut.some some in
    record {
      said = next_line _ _ (uncut c.loop-line.line-iterator) c.in-Some.line.now (uncut c.next.new.self) _ _ _ c.loop-line.place c.loop-line.good _ c.in_ok-report_line.ensures.1 one good (cut.first some) inv.said;
      left = omega arith;
      few = omega arith;
    }
