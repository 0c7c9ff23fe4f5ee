use Rattle.std.proofs.Common.{◌≡◌, take, drop}
use Rattle.cover.specs.Sheets.{sheet_net, sheet_strands}
use Rattle.rehearsal.specs.Covers.{proposals}
use Rattle.rehearsal.proofs.covers.certified_by.Given as goal

-- the sets so far are on the sheet, and the others decide
abbrev pub invariant-loop-set : goal.invariant-loop-set
invariant-loop-set l =
    (sheet_net l.sheet ≡ sheet_net l.initial.sheet)
    × (sheet_strands l.sheet ≡ take l.set-index l.sets)
    × (proposals (sheet_net l.initial.sheet) (sheet_strands l.sheet) (drop l.set-index l.sets) ≡ proposals (sheet_net l.initial.sheet) (sheet_strands l.initial.sheet) l.sets)
