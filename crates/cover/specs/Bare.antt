-- Bare places: those that no strand on a sheet contains.
--   without_each      a set without the members of each set of a list
--   bare_places       the places of the net that are in no set of the list
--   NewStrand         a strand with a bare place in it
--   propose_outcome   the first reason why a set does not go onto the sheet, or none
use Rattle.std.specs.Prelude.{ℕ, ◌-◌, ◌^◌, List, [], ◌∷◌, Ok, ◌==◌}
use Rattle.refusal.specs.declared.Refusal.TheVariants.{NoBarePlace}
use Rattle.net.specs.Nets.{PetriNet}
use Rattle.refusal.specs.Outcomes.{Outcome, refuse_if, and_then}
use Rattle.net.specs.Sets.{In, intersection, difference}
use Rattle.net.specs.Strands.{Strand, Occurs}
use Rattle.cover.specs.Checks.{check_outcome}

abbrev pub without_each : ℕ → List ℕ → ℕ
without_each s [] = s
without_each s (r ∷ rs) = without_each (difference s r) rs

-- the set of all places is 2 ^ places - 1
abbrev pub bare_places : PetriNet → List ℕ → ℕ
bare_places n ss = without_each (2 ^ n.places - 1) ss

abbrev pub NewStrand : PetriNet → List ℕ → ℕ → Type 0
NewStrand n ss s = Strand n s × ((p : ℕ) × In p s × (Occurs p ss → ⊥))

abbrev pub propose_outcome : PetriNet → List ℕ → ℕ → Outcome
propose_outcome n ss s = and_then (check_outcome n s) (refuse_if (intersection (bare_places n ss) s == 0) NoBarePlace (Ok tt))
