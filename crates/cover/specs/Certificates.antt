-- What a certified net holds, and when a sheet is refused.
--   certified_net       the net
--   certified_strands   the strands that cover it, in the order in which they were accepted
--   certify_outcome     refused with the lowest bare place, if one is left
--   TakenOver           the net and the strands of the sheet were taken over, or were refused and the certified net is as it was
use Rattle.std.specs.Prelude.{◌≡◌, ℕ, List, Ok, Err}
use Rattle.refusal.specs.declared.Refusal.TheVariants.{Bare}
use Rattle.net.specs.Lowest.{lowest_in}
use Rattle.net.specs.Nets.{PetriNet}
use Rattle.refusal.specs.Outcomes.{Outcome, refuse_at}
use Rattle.cover.specs.Bare.{bare_places}
use Rattle.cover.specs.Sheets.{sheet_net, sheet_strands}
use Rattle.cover.specs.declared.certified.Certified.{Certified}
use Rattle.cover.specs.declared.sheet.Sheet.{Sheet}

abbrev pub certified_net : Certified → PetriNet
certified_net c = sheet_net c.sheet

abbrev pub certified_strands : Certified → List ℕ
certified_strands c = sheet_strands c.sheet

abbrev pub certify_outcome : PetriNet → List ℕ → Outcome
certify_outcome n ss = refuse_at (lowest_in (bare_places n ss)) Bare (Ok tt)

abbrev pub TakenOver : Certified → Sheet → Outcome → Certified → Type 0
TakenOver old sheet (Ok _) new = (certified_net new ≡ sheet_net sheet) × (certified_strands new ≡ sheet_strands sheet)
TakenOver old sheet (Err _) new = new ≡ old
