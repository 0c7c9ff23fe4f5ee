-- What a folded net holds, and what its calls come to.
--   folded_original   the net that it was copied from
--   folded_net        the net after its fusions
--   folded_steps      what each fusion noted, in the order made
--   Fused             one fusion was made and noted; or none applies, and nothing changed
--   unfold_outcome    refused for a place that the net has not; else the set with the noted places put back
--   Unfolds           a strand of the folded net comes out as a strand of the net that it was copied from, or as the empty set
use Rattle.std.specs.Prelude.{◌≡◌, ℕ, ◌^◌, cond, ◌⊎◌, List, [], ◌∷◌, ◌++◌, Some, None, Ok, Err, Option, Result, nat_le}
use Rattle.refusal.specs.declared.Refusal.{Refusal}
use Rattle.refusal.specs.declared.Refusal.TheVariants.{PlaceOutside}
use Rattle.net.specs.Nets.{PetriNet, drawn}
use Rattle.net.specs.Strands.{Strand}
use Rattle.fold.specs.Steps.{step_of, net_after, unfolded}
use Rattle.fold.specs.declared.folded.Folded.{Folded}
use Rattle.fold.specs.declared.fusion.Fusion.{Fusion}
use Rattle.fold.specs.declared.step.Step.{Step}

abbrev pub folded_original : Folded → PetriNet
folded_original f = drawn f.original

abbrev pub folded_net : Folded → PetriNet
folded_net f = drawn f.folded

abbrev pub folded_steps : Folded → List Step
folded_steps f = f.steps.items

abbrev pub Fused : Folded → Option Fusion → Folded → Type 0
Fused old (Some fusion) new =
    (folded_original new ≡ folded_original old) × (folded_net new ≡ net_after (folded_net old) fusion) × (folded_steps new ≡ folded_steps old ++ step_of (folded_net old) fusion ∷ [])
Fused old None new = new ≡ old

abbrev pub unfold_outcome : PetriNet → List Step → ℕ → Result ℕ Refusal
unfold_outcome n steps s = cond (nat_le (2 ^ n.places) s) (Err PlaceOutside) (Ok (unfolded steps s))

abbrev pub Unfolds : Folded → ℕ → ℕ → Type 0
Unfolds f s r = Strand (folded_net f) s → Strand (folded_original f) r ⊎ (r ≡ 0)
