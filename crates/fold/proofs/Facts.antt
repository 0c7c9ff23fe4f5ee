-- What holds of every folded net, and what one more fusion makes of it.
use Rattle.std.proofs.Common.{◌≡◌, ℕ, suc, ◌+◌, ◌<◌, ◌≤◌, true, false, ◌⊎◌, ◌↔◌, [], ◌∷◌, ◌++◌, length, get_or, is_some, Some, None, Option, sym, refl, ap, ◌∙◌, subst, ap₂, inl, ⊎_elim, add-one, arith}
use Rattle.std.proofs.lemmas.List.{get_or_append_left}
use Rattle.std.proofs.Math.Seq.{get_or-append_seam}
use Rattle.std.proofs.lemmas.Bool.{both_ways, cases_eq}
use Rattle.net.specs.Nets.{PetriNet, Kept}
use Rattle.net.specs.Strands.{Strand, HasCover}
use Rattle.net.proofs.Kept.{net_kept}
use Rattle.fold.specs.Foldings.{folded_original, folded_net, folded_steps}
use Rattle.fold.specs.Fusions.{replaced}
use Rattle.fold.specs.Steps.{fusion_of, Applies, emptied, step_of, net_after, after_fusion, folding, nothing_noted, noted, noted_by, Noted, unfolded}
use Rattle.fold.specs.declared.folded.Folded.{Folded}
use Rattle.fold.specs.declared.fusion.Fusion.{Fusion}
use Rattle.fold.specs.declared.step.Step.{Step}
use Rattle.fold.proofs.Foldings.{folding_covers, folding_room, all_back, folding_kept, folding_few}
use Rattle.fold.proofs.Fused.{fusion_applies, applied_replaces, applied_kept, applied_same}

-- how many fusions were made
abbrev pub made : Folded → ℕ
made f = length (folded_steps f)

pub folded_keeps_covers : (f : Folded) → HasCover (folded_net f) ↔ HasCover (folded_original f)
folded_keeps_covers f =
    subst (λ n. HasCover n ↔ HasCover (folded_original f)) (sym f.fused) (folding_covers (folded_original f) (net_kept f.original) f.original.placed (made f))

-- there are at most 64 steps
pub steps_few : (f : Folded) → made f ≤ 64
steps_few f =
    let few = folding_room (folded_original f) (net_kept f.original) f.original.placed (made f) (λ j lt. (f.noted j lt).0) in
    let most = f.original.counted in
    omega arith

-- a strand of the folded net unfolds to a strand of the original, or to nothing
pub folded_strands_unfold : (f : Folded) (s : ℕ) → Strand (folded_net f) s
    → Strand (folded_original f) (unfolded (folded_steps f) s) ⊎ (unfolded (folded_steps f) s ≡ 0)
folded_strands_unfold f s strand =
    all_back (folded_original f) (net_kept f.original) f.original.placed (folded_steps f) f.noted s (inl (subst (λ n. Strand n s) f.fused strand))

-- ---- one fusion more

module _ (n : PetriNet) (kept : Kept n) (few : n.places ≤ 64) (fusion : Fusion) (can : Applies n fusion) where
  pub noted_place_below : (step_of n fusion).place < 64
  noted_place_below = let h = (applied_replaces n kept few fusion can).p_below in omega arith

  -- the replacement of a plan is a net, and is the net after the fusion
  module _ (x : ℕ) (step : Step) (xs : x ≡ emptied n fusion) (steps : step ≡ step_of n fusion) where
    pub plan_below : step.place < 64
    plan_below = subst (λ p. p.place < 64) (sym steps) noted_place_below

    pub plan_same : replaced n x step.place step.set ≡ net_after n fusion
    plan_same = ap₂ (λ y (s : Step). replaced n y s.place s.set) xs steps ∙ applied_same n kept few fusion can

    pub plan_kept : Kept (replaced n x step.place step.set)
    plan_kept = subst Kept (sym plan_same) (applied_kept n kept few fusion can)

module _ (f : Folded) (fusion : Fusion) (next : fusion_of (folded_net f) ≡ Some fusion) where
  next_there : is_some (fusion_of (folding (folded_original f) (made f))) ≡ true
  next_there = ap (λ n. is_some (fusion_of n)) (sym f.fused) ∙ ap is_some next

  -- a step was made before each step, and one is made now
  each_there : (j : ℕ) → j < suc (made f) → is_some (fusion_of (folding (folded_original f) j)) ≡ true
  each_there j lt = ⊎_elim
      (λ e. ap (λ k. is_some (fusion_of (folding (folded_original f) k))) e ∙ next_there)
      (λ ne. (f.noted j (omega arith)).0)
      (cases_eq j (made f))

  -- there is room for the step
  pub room_for_step : made f < 64
  room_for_step =
      let few = folding_room (folded_original f) (net_kept f.original) f.original.placed (suc (made f)) each_there in
      let most = f.original.counted in
      omega arith

  -- the net after a planned replacement is the net after the fusion, and is a net
  module _ (x : ℕ) (step : Step) (xs : x ≡ emptied (folded_net f) fusion) (steps : step ≡ step_of (folded_net f) fusion) where
    pub plan_net : (new : PetriNet) → new ≡ replaced (folded_net f) x step.place step.set → new ≡ net_after (folded_net f) fusion
    plan_net new e = e ∙ plan_same (folded_net f) (net_kept f.folded) f.folded.placed fusion (fusion_applies (folded_net f) fusion next) x step xs steps

    pub plan_net_kept : Kept (replaced (folded_net f) x step.place step.set)
    plan_net_kept = plan_kept (folded_net f) (net_kept f.folded) f.folded.placed fusion (fusion_applies (folded_net f) fusion next) x step xs steps

  pub next_net : (new : PetriNet) → new ≡ net_after (folded_net f) fusion → new ≡ folding (folded_original f) (made f + 1)
  next_net new e =
      e ∙ sym (ap (after_fusion (folded_net f)) next) ∙ ap (λ n. after_fusion n (fusion_of n)) f.fused ∙ ap (folding (folded_original f)) (sym (add-one (made f)))

  pub next_covers : (new : PetriNet) → new ≡ net_after (folded_net f) fusion → HasCover new ↔ HasCover (folded_original f)
  next_covers new e =
      subst (λ n. HasCover n ↔ HasCover (folded_original f)) (sym (next_net new e)) (folding_covers (folded_original f) (net_kept f.original) f.original.placed (made f + 1))

  pub next_noted : (step : Step) → step ≡ step_of (folded_net f) fusion → Noted (folded_original f) (folded_steps f ++ step ∷ []) (made f + 1)
  next_noted step is k l = ⊎_elim
      (λ e. let here : get_or (folded_steps f ++ step ∷ []) k nothing_noted ≡ noted (folding (folded_original f) k) =
      ap (λ j. get_or (folded_steps f ++ step ∷ []) j nothing_noted) e ∙ get_or-append_seam (folded_steps f) step [] nothing_noted ∙ note ∙ ap (λ j. noted (folding (folded_original f) j)) (sym e) in
      (each_there k (omega arith), ap (λ (s : Step). s.place) here, ap (λ (s : Step). s.set) here))
      (λ ne. let same = get_or_append_left (folded_steps f) (step ∷ []) nothing_noted k (omega arith) in
      let old = f.noted k (omega arith) in
      (old.0, ap (λ (s : Step). s.place) same ∙ old.1, ap (λ (s : Step). s.set) same ∙ old.2))
      (cases_eq k (made f))
    where
      note : step ≡ noted (folding (folded_original f) (made f))
      note = is ∙ sym (ap (noted_by (folded_net f)) next) ∙ ap noted f.fused

-- each noted place is one of 64
pub noted_below : (f : Folded) (k : ℕ) → k < made f → (get_or (folded_steps f) k nothing_noted).place < 64
noted_below f k lt =
    let (is, place, set) = f.noted k lt in
    let n = folded_original f in
    let here = below (folding n k) (folding_kept n (net_kept f.original) f.original.placed k).0 (folding_few n (net_kept f.original) f.original.placed k) (fusion_of (folding n k)) refl is in
    omega arith
  where
    below : (n : PetriNet) → Kept n → n.places ≤ 64 → (o : Option Fusion) → fusion_of n ≡ o → is_some o ≡ true → (noted_by n o).place < 64
    below n kept few (Some fusion) e is = noted_place_below n kept few fusion (fusion_applies n fusion e)
    below n kept few None e is = absurd (both_ways false refl is)
