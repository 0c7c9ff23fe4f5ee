-- Fusions one after another: what every net keeps, the room for steps, covers and strands.
use Rattle.std.proofs.Common.{◌≡◌, ℕ, zero, suc, ◌+◌, ◌<◌, ◌≤◌, true, false, ◌⊎◌, ◌↔◌, List, [], ◌∷◌, ◌++◌, length, get_or, take, reverse, is_some, Some, None, Option, sym, refl, ap, ◌∙◌, subst, ap₂, arith, take-suc}
use Rattle.std.specs.List.{fold}
use Rattle.std.proofs.Math.Seq.{take-length}
use Rattle.std.proofs.lemmas.List.{reverse-append}
use Rattle.std.proofs.lemmas.List.Sums.{fold-append}
use Rattle.std.proofs.lemmas.Bool.{both_ways}
use Rattle.net.specs.Nets.{PetriNet, Kept}
use Rattle.net.specs.Strands.{Strand, HasCover}
use Rattle.fold.specs.Steps.{fusion_of, step_of, net_after, after_fusion, folding, noted_by, nothing_noted, Noted, put_back, unfolded}
use Rattle.fold.specs.declared.fusion.Fusion.{Fusion}
use Rattle.fold.specs.declared.fusion.Fusion.TheVariants.{Places, Transitions}
use Rattle.fold.specs.declared.step.Step.{Step}
use Rattle.fold.proofs.Covers.{covers_both_ways, piece_back}
use Rattle.fold.proofs.Fused.{fusion_applies, applied_replaces, applied_kept}
use Rattle.fold.proofs.Rooms.{busy, busy_few, busy_falls}

-- a strand, or nothing
abbrev pub Piece : PetriNet → ℕ → Type 0
Piece n s = Strand n s ⊎ (s ≡ 0)

-- ---- one fusion, or none

places_stay : (n : PetriNet) (f : Fusion) → (net_after n f).places ≡ n.places
places_stay n (Places t) = refl
places_stay n (Transitions m) = refl

transitions_stay : (n : PetriNet) (f : Fusion) → (net_after n f).transitions ≡ n.transitions
transitions_stay n (Places t) = refl
transitions_stay n (Transitions m) = refl

module _ (n : PetriNet) (kept : Kept n) (few : n.places ≤ 64) where
  step_kept : (o : Option Fusion) → fusion_of n ≡ o → Kept (after_fusion n o) × ((after_fusion n o).places ≡ n.places) × ((after_fusion n o).transitions ≡ n.transitions)
  step_kept (Some f) e = (applied_kept n kept few f (fusion_applies n f e), places_stay n f, transitions_stay n f)
  step_kept None e = (kept, refl, refl)

  step_covers : (o : Option Fusion) → fusion_of n ≡ o → HasCover (after_fusion n o) ↔ HasCover n
  step_covers (Some f) e = covers_both_ways n (net_after n f) _ (step_of n f).place (step_of n f).set (applied_replaces n kept few f (fusion_applies n f e))
  step_covers None e = (λ h. h, λ h. h)

  step_busy : (o : Option Fusion) → fusion_of n ≡ o → is_some o ≡ true → busy (after_fusion n o) < busy n
  step_busy (Some f) e is = busy_falls n (net_after n f) _ (step_of n f).place (step_of n f).set (applied_replaces n kept few f (fusion_applies n f e))
  step_busy None e is = absurd (both_ways false refl is)

  step_back : (o : Option Fusion) → fusion_of n ≡ o → is_some o ≡ true → (s : ℕ) → Piece (after_fusion n o) s → Piece n (put_back (noted_by n o).place (noted_by n o).set s)
  step_back (Some f) e is = piece_back n (net_after n f) _ (step_of n f).place (step_of n f).set (applied_replaces n kept few f (fusion_applies n f e))
  step_back None e is = absurd (both_ways false refl is)

-- ---- the last step is put back first

unfolded_then : (steps steps' : List Step) (s : ℕ) → unfolded (steps ++ steps') s ≡ unfolded steps (unfolded steps' s)
unfolded_then [] steps' s = refl
unfolded_then (step ∷ steps) steps' s = ap (put_back step.place step.set) (unfolded_then steps steps' s)

-- the steps from the last to the first, one by one
pub unfolded_reverse : (steps : List Step) (s : ℕ) → fold (λ t (step : Step). put_back step.place step.set t) s (reverse steps) ≡ unfolded steps s
unfolded_reverse [] s = refl
unfolded_reverse (step ∷ steps) s =
    ap (fold (λ t (x : Step). put_back x.place x.set t) s) (reverse-append (step ∷ []) steps)
    ∙ fold-append (λ t (x : Step). put_back x.place x.set t) s (reverse steps) (step ∷ [])
    ∙ ap (put_back step.place step.set) (unfolded_reverse steps s)

pub unfolded_more : (steps : List Step) (k : ℕ) (none : Step) (s : ℕ) → k < length steps
    → unfolded (take (suc k) steps) s ≡ unfolded (take k steps) (put_back (get_or steps k none).place (get_or steps k none).set s)
unfolded_more steps k none s lt = ap (λ l. unfolded l s) (take-suc steps k none lt) ∙ unfolded_then (take k steps) (get_or steps k none ∷ []) s

-- ---- many

module _ (n : PetriNet) (kept : Kept n) (few : n.places ≤ 64) where
  pub folding_kept : (k : ℕ) → Kept (folding n k) × ((folding n k).places ≡ n.places) × ((folding n k).transitions ≡ n.transitions)
  folding_kept zero = (kept, refl, refl)
  folding_kept (suc k) =
      let (here, places, transitions) = folding_kept k in
      let (later, places', transitions') = step_kept (folding n k) here (subst (λ p. p ≤ 64) (sym places) few) (fusion_of (folding n k)) refl in
      (later, places' ∙ places, transitions' ∙ transitions)

  pub folding_few : (k : ℕ) → (folding n k).places ≤ 64
  folding_few k = subst (λ p. p ≤ 64) (sym (folding_kept k).1) few

  pub folding_covers : (k : ℕ) → HasCover (folding n k) ↔ HasCover n
  folding_covers zero = (λ h. h, λ h. h)
  folding_covers (suc k) =
      let later = step_covers (folding n k) (folding_kept k).0 (folding_few k) (fusion_of (folding n k)) refl in
      let before = folding_covers k in
      (λ h. before.0 (later.0 h), λ h. later.1 (before.1 h))

  pub folding_room : (k : ℕ) → ((j : ℕ) → j < k → is_some (fusion_of (folding n j)) ≡ true) → k + busy (folding n k) ≤ n.transitions
  folding_room zero all = let h = busy_few n in omega arith
  folding_room (suc k) all =
      let before = folding_room k (λ j lt. all j (omega arith)) in
      let falls = step_busy (folding n k) (folding_kept k).0 (folding_few k) (fusion_of (folding n k)) refl (all k (omega arith)) in
      omega arith

  -- a piece of the folded net, with the noted places put back, is a piece of the net
  pub folding_back : (steps : List Step) (count : ℕ) → count ≤ length steps → Noted n steps count → (k : ℕ) → k ≤ count → (s : ℕ) → Piece (folding n k) s → Piece n (unfolded (take k steps) s)
  folding_back steps count long all zero le s piece = piece
  folding_back steps count long all (suc k) le s piece =
      let (is, place, set) = all k (omega arith) in
      let back = step_back (folding n k) (folding_kept k).0 (folding_few k) (fusion_of (folding n k)) refl is s piece in
      let rest = folding_back steps count long all k (omega arith) _ back in
      subst (Piece n) (ap (unfolded (take k steps)) (ap₂ (λ p t. put_back p t s) (sym place) (sym set)) ∙ sym (unfolded_more steps k nothing_noted s (omega arith))) rest

  -- and with those of all steps
  pub all_back : (steps : List Step) → Noted n steps (length steps) → (s : ℕ) → Piece (folding n (length steps)) s → Piece n (unfolded steps s)
  all_back steps all s piece = subst (λ l. Piece n (unfolded l s)) (take-length steps) (folding_back steps (length steps) (omega arith) all (length steps) (omega arith) s piece)
