-- A cover that is sent along with a drawing.
--   proposals       the first refusal of the sets, proposed one after another to a sheet with some strands, or none
--   cover_outcome   the first refusal of the sets, and then of the certificate
use Rattle.std.specs.Prelude.{ℕ, List, [], ◌∷◌, ◌++◌, Ok}
use Rattle.refusal.specs.Outcomes.{Outcome, and_then}
use Rattle.net.specs.Nets.{PetriNet}
use Rattle.cover.specs.Bare.{propose_outcome}
use Rattle.cover.specs.Certificates.{certify_outcome}

-- each set is proposed to a sheet that has the strands before it
abbrev pub proposals : PetriNet → List ℕ → List ℕ → Outcome
proposals n strands [] = Ok tt
proposals n strands (s ∷ sets) = and_then (propose_outcome n strands s) (proposals n (strands ++ s ∷ []) sets)

abbrev pub cover_outcome : PetriNet → List ℕ → Outcome
cover_outcome n sets = and_then (proposals n [] sets) (certify_outcome n sets)
