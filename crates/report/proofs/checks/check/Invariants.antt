use Rattle.std.proofs.Common.{◌≡◌, ◌+◌, ◌≤◌, ◌++◌, length, string_bytes}
use Rattle.frame.specs.Cuts.{lines_of}
use Rattle.frame.specs.Uncut.{uncut}
use Rattle.report.specs.Checks.{report_from, report_of}
use Rattle.report.proofs.checks.check.Given as goal

abbrev pub invariant-loop-line : goal.invariant-loop-line
invariant-loop-line l = record {
  said : string_bytes l.report ++ report_from (l.good + l.bad) l.place l.good (lines_of (uncut l.line-iterator)) ≡ report_of l.job;
  left : l.place + length (uncut l.line-iterator) ≡ length l.job;
  few : l.good + l.bad ≤ l.place;
}
