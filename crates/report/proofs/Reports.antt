-- A report, one line further.
use Rattle.std.proofs.Common.{◌≡◌, ℕ, ◌+◌, cond, List, ◌∷◌, ◌++◌, length, sym, ap, ◌∙◌, ap₂, append_assoc}
use Rattle.frame.specs.Cuts.{lines_of}
use Rattle.report.specs.Checks.{is_good, finding_of, line_text, report_from}

pub next_line : (text text' rest line more out : List ℕ) (n n' p g g' : ℕ) → text' ≡ text ++ line_text (n + 1) p (finding_of line) → n' ≡ n + 1 → g' ≡ g + cond (is_good line) 1 0
    → lines_of rest ≡ line ∷ lines_of more → text ++ report_from n p g (lines_of rest) ≡ out → text' ++ report_from n' (p + length line) g' (lines_of more) ≡ out
next_line text text' rest line more out n n' p g g' is one good first so_far =
    ap₂ (λ m k. text' ++ report_from m (p + length line) k (lines_of more)) one good
    ∙ ap (λ t. t ++ report_from (n + 1) (p + length line) (g + cond (is_good line) 1 0) (lines_of more)) is
    ∙ append_assoc text (line_text (n + 1) p (finding_of line)) (report_from (n + 1) (p + length line) (g + cond (is_good line) 1 0) (lines_of more))
    ∙ ap (λ ls. text ++ report_from n p g ls) (sym first) ∙ so_far
