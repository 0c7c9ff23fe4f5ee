-- Petri nets.
--   PetriNet   a net by its numbers, with the set that each transition takes and the set that it gives
--   drawn      the numbers of a net of the code
--   Kept       what every net keeps
use Rattle.std.specs.Prelude.{◌≡◌, ℕ, ◌^◌, ◌<◌, ◌≤◌}
use Rattle.net.specs.Arcs.{arcs_at}
use Rattle.net.specs.Sets.{intersection}
use Rattle.net.specs.declared.net.Net.{Net}

-- places and transitions are numbered from 0; `marks` is the set of the places that are marked at the start
pub record PetriNet : Type 0 where
  pub places : ℕ
  pub transitions : ℕ
  pub marks : ℕ
  pub takes : ℕ → ℕ
  pub gives : ℕ → ℕ

abbrev pub drawn : Net → PetriNet
drawn n = record { places = n.places; transitions = n.transitions; marks = n.marks; takes = λ t. (arcs_at n.table t).taken; gives = λ t. (arcs_at n.table t).given }

-- the sets lie below the number of places, no transition takes and gives one place, and there are no arcs from the last transition on
pub record Kept (n : PetriNet) : Type 0 where
  pub marked : n.marks < 2 ^ n.places
  pub taken : (t : ℕ) → n.takes t < 2 ^ n.places
  pub given : (t : ℕ) → n.gives t < 2 ^ n.places
  pub apart : (t : ℕ) → intersection (n.takes t) (n.gives t) ≡ 0
  pub ended : (t : ℕ) → n.transitions ≤ t → (n.takes t ≡ 0) × (n.gives t ≡ 0)
