-- The report on a job file, line after line.
--   is_good       whether nothing is wrong with a line
--   finding_of    what a line says, or what is wrong with it
--   line_text     a line of the report: the number of a line of the job, from 1 on, its place, and what was found
--   closing_text  the last line of the report: how many lines are good and how many are bad
--   report_of     the whole report
use Rattle.std.specs.Prelude.{ℕ, ◌+◌, ◌-◌, Bool, cond, List, [], ◌∷◌, ◌++◌, length, is_ok, Ok, Err, codes, decimal}
use Rattle.refusal.specs.declared.Refusal.{Refusal}
use Rattle.refusal.specs.Numbers.{number_of}
use Rattle.refusal.specs.Reasons.{reason_of}
use Rattle.refusal.specs.Outcomes.{Outcome}
use Rattle.frame.specs.Lines.{digits_in, kind_in, payload_in, check_digits}
use Rattle.frame.specs.Requests.{request_of}
use Rattle.frame.specs.Cuts.{lines_of}
use Rattle.report.specs.Texts.{saying_of}

abbrev pub is_good : List ℕ → Bool
is_good line = is_ok (check_digits (digits_in line))

abbrev pub refused_text : Refusal → List ℕ
refused_text refusal = codes "refused " ++ (decimal (number_of refusal) ++ (codes ": " ++ reason_of refusal))

abbrev pub found_text : Outcome → List ℕ → List ℕ
found_text (Ok _) ds = saying_of (request_of (kind_in ds) (payload_in ds))
found_text (Err refusal) ds = refused_text refusal

abbrev pub finding_of : List ℕ → List ℕ
finding_of line = found_text (check_digits (digits_in line)) (digits_in line)

abbrev pub line_text : ℕ → ℕ → List ℕ → List ℕ
line_text number place found = codes "line " ++ (decimal number ++ (codes " at " ++ (decimal place ++ (codes ": " ++ (found ++ 10 ∷ [])))))

abbrev pub closing_text : ℕ → ℕ → List ℕ
closing_text good bad = codes "good lines: " ++ (decimal good ++ (codes ", bad lines: " ++ (decimal bad ++ 10 ∷ [])))

-- so many lines, of so many bytes, are reported on, and so many of them were good
abbrev pub report_from : ℕ → ℕ → ℕ → List (List ℕ) → List ℕ
report_from number place good [] = closing_text good (number - good)
report_from number place good (line ∷ lines) = line_text (number + 1) place (finding_of line) ++ report_from (number + 1) (place + length line) (good + cond (is_good line) 1 0) lines

abbrev pub report_of : List ℕ → List ℕ
report_of job = report_from 0 0 0 (lines_of job)
