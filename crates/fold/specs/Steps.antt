-- Fusions one after another, and the way back.
--   first_fusion    the first of two that is there
--   fusion_of       the fusion that comes next: of places if there is one, at the lowest transition; else of transitions, at the lowest place
--   Applies         the fusion can be made where it says
--   emptied         the transition that loses its arcs by a fusion
--   step_of         what a fusion notes: the place that leaves the net, and the set that says where it is put back
--   net_after       the net after a fusion
--   after_fusion    the net after a fusion, and the same net where there is none
--   folding         the net after k fusions, or fewer where no more apply
--   nothing_noted   the step that stands where none was made: place 0 with the empty set
--   noted_by        what a fusion notes, and nothing where there is none
--   noted           what the next fusion notes, and nothing where none applies
--   Noted           a fusion applied before each of the first steps, and the step is what that fusion notes
--   put_back        the set with the noted place in it where it meets the noted set, and without that place otherwise
--   unfolded        each noted place put back, that of the last step first
use Rattle.std.specs.Prelude.{◌≡◌, ℕ, zero, suc, ◌^◌, ◌<◌, true, cond, List, [], ◌∷◌, is_some, Some, None, Option, ◌==◌, slice_index_or}
use Rattle.std.specs.Option.{unwrap_or, option_map}
use Rattle.net.specs.Lowest.{lowest}
use Rattle.net.specs.Nets.{PetriNet}
use Rattle.net.specs.Sets.{intersection, union, difference}
use Rattle.fold.specs.Fusions.{place_fusible, place_fused, transition_fusible, transition_fused, giver, taker, member}
use Rattle.fold.specs.declared.step.Step.{Step}
use Rattle.fold.specs.declared.fusion.Fusion.{Fusion}
use Rattle.fold.specs.declared.fusion.Fusion.TheVariants.{Places, Transitions}

abbrev pub first_fusion : Option Fusion → Option Fusion → Option Fusion
first_fusion (Some f) other = Some f
first_fusion None other = other

abbrev pub fusion_of : PetriNet → Option Fusion
fusion_of n = first_fusion (option_map Places (lowest n.transitions (place_fusible n))) (option_map Transitions (lowest n.places (transition_fusible n)))

abbrev pub Applies : PetriNet → Fusion → Type 0
Applies n (Places t) = (t < n.transitions) × (place_fusible n t ≡ true)
Applies n (Transitions m) = (m < n.places) × (transition_fusible n m ≡ true)

abbrev pub emptied : PetriNet → Fusion → ℕ
emptied n (Places t) = t
emptied n (Transitions m) = unwrap_or (taker n m) 0

abbrev pub step_of : PetriNet → Fusion → Step
step_of n (Places t) = record { place = member (n.gives t); set = n.takes t }
step_of n (Transitions m) = record { place = m; set = n.gives (unwrap_or (taker n m) 0) }

abbrev pub net_after : PetriNet → Fusion → PetriNet
net_after n (Places t) = place_fused n t
net_after n (Transitions m) = transition_fused n m (unwrap_or (giver n m) 0) (unwrap_or (taker n m) 0)

abbrev pub after_fusion : PetriNet → Option Fusion → PetriNet
after_fusion n (Some f) = net_after n f
after_fusion n None = n

abbrev pub folding : PetriNet → ℕ → PetriNet
folding n zero = n
folding n (suc k) = after_fusion (folding n k) (fusion_of (folding n k))

abbrev pub nothing_noted : Step
nothing_noted = record { place = 0; set = 0 }

abbrev pub noted_by : PetriNet → Option Fusion → Step
noted_by n (Some f) = step_of n f
noted_by n None = nothing_noted

abbrev pub noted : PetriNet → Step
noted n = noted_by n (fusion_of n)

abbrev pub Noted : PetriNet → List Step → ℕ → Type 0
Noted n steps count = (k : ℕ) → k < count → (is_some (fusion_of (folding n k)) ≡ true) × ((slice_index_or steps k nothing_noted).place ≡ (noted (folding n k)).place) × ((slice_index_or steps k nothing_noted).set ≡ (noted (folding n k)).set)

abbrev pub put_back : ℕ → ℕ → ℕ → ℕ
put_back p meeting s = cond (intersection meeting s == 0) (difference s (2 ^ p)) (union s (2 ^ p))

abbrev pub unfolded : List Step → ℕ → ℕ
unfolded [] s = s
unfolded (step ∷ steps) s = put_back step.place step.set (unfolded steps s)
