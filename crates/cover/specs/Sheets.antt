-- What a sheet holds.
--   sheet_net       the net
--   sheet_strands   the strands that were accepted, in that order
--   Proposed        the set was put behind the strands, or was refused and the sheet is as it was
use Rattle.std.specs.Prelude.{◌≡◌, ℕ, List, [], ◌∷◌, ◌++◌, Ok, Err}
use Rattle.net.specs.Nets.{PetriNet, drawn}
use Rattle.refusal.specs.Outcomes.{Outcome}
use Rattle.cover.specs.declared.sheet.Sheet.{Sheet}

abbrev pub sheet_net : Sheet → PetriNet
sheet_net s = drawn s.net

abbrev pub sheet_strands : Sheet → List ℕ
sheet_strands s = s.strands.items

abbrev pub Proposed : Sheet → ℕ → Outcome → Sheet → Type 0
Proposed old set (Ok _) new = (sheet_net new ≡ sheet_net old) × (sheet_strands new ≡ sheet_strands old ++ set ∷ [])
Proposed old set (Err _) new = new ≡ old
