use Rattle.std.proofs.Common.{Some, None}
use Rattle.net.specs.Lowest.{Lowest}
use Rattle.net.specs.Sets.{has}
use Rattle.net.specs.Strands.{Cover, HasCover}
use Rattle.net.proofs.Kept.{net_kept}
use Rattle.net.proofs.Tokens.{covered_safe, covered_contact_free}
use Rattle.cover.specs.Sheets.{sheet_net, sheet_strands}
use Rattle.cover.specs.declared.sheet.Sheet.{Sheet}
use Rattle.cover.proofs.Bares.{bare_none_covers}
use Rattle.cover.proofs.Covers.{certify_by_lowest, none_lowest, some_not_covered}
use Rattle.cover.proofs.certified.Certified.certify.Goals as goal

-- no place of the sheet is bare, so its strands are a cover
covered_by : (sheet : Sheet) → Lowest 64 (has sheet.bare) None → Cover (sheet_net sheet) (sheet_strands sheet)
covered_by sheet low =
    bare_none_covers (sheet_net sheet) (sheet_strands sheet) sheet.checked (none_lowest (sheet_net sheet) (sheet_strands sheet) sheet.bare sheet.bared sheet.net.placed low)

pub invariant_of-self : goal.invariant_of-self
invariant_of-self c =
    let sheet = c.args.sheet in
    record { covered = none_lowest (sheet_net sheet) (sheet_strands sheet) sheet.bare sheet.bared sheet.net.placed c.in-None.ensures }

pub returns-in-Some-clause-answer : goal.returns-in-Some-clause-answer
returns-in-Some-clause-answer c =
    let sheet = c.args.sheet in
    certify_by_lowest (sheet_net sheet) (sheet_strands sheet) sheet.bare sheet.bared (Some c.in-Some.place) c.in-Some.ensures

pub returns-in-Some-clause-covered : goal.returns-in-Some-clause-covered
returns-in-Some-clause-covered c =
    let sheet = c.args.sheet in
    some_not_covered (sheet_net sheet) (sheet_strands sheet) sheet.bare sheet.bared c.in-Some.place c.in-Some.ensures

pub returns-in-None-clause-answer : goal.returns-in-None-clause-answer
returns-in-None-clause-answer c =
    let sheet = c.args.sheet in
    certify_by_lowest (sheet_net sheet) (sheet_strands sheet) sheet.bare sheet.bared None c.in-None.ensures

pub returns-in-None-clause-covered : goal.returns-in-None-clause-covered
returns-in-None-clause-covered c = covered_by c.args.sheet c.in-None.ensures

pub returns-in-None-clause-safe : goal.returns-in-None-clause-safe
returns-in-None-clause-safe c =
    let sheet = c.args.sheet in
    let cover : HasCover (sheet_net sheet) = (sheet_strands sheet, covered_by sheet c.in-None.ensures) in
    (covered_safe (sheet_net sheet) (net_kept sheet.net) cover, covered_contact_free (sheet_net sheet) (net_kept sheet.net) cover)
