-- The fusion that comes next puts a noted set in place of a noted place, and keeps what every net keeps.
use Rattle.std.proofs.Common.{◌≡◌, ℕ, ◌<◌, ◌≤◌, cond, eqb, Some, None, Option, unwrap_or, sym, ap, ◌∙◌, subst, ⊎_elim, arith}
use Rattle.std.specs.Option.{option_map}
use Rattle.std.proofs.lemmas.Bool.{cases_eq, cases_lt, cond-true, cond-false, eq-eqb, ne_eqb}
use Rattle.net.specs.Lowest.{lowest, Lowest}
use Rattle.net.specs.Nets.{PetriNet, Kept}
use Rattle.net.proofs.Drawn.{same_drawn}
use Rattle.net.proofs.Lows.{lowest_is_lowest}
use Rattle.net.proofs.Members.{in_none}
use Rattle.fold.specs.Fusions.{swapped, replaced, place_fusible, transition_fusible, giver, taker, member}
use Rattle.fold.specs.Steps.{first_fusion, fusion_of, Applies, emptied, step_of, net_after}
use Rattle.fold.specs.declared.fusion.Fusion.{Fusion}
use Rattle.fold.specs.declared.fusion.Fusion.TheVariants.{Places, Transitions}
use Rattle.fold.proofs.Fusibles.{place_fusible_means, transition_fusible_means}
use Rattle.fold.proofs.PlaceFused.{place_replaces, place_kept}
use Rattle.fold.proofs.Replaced.{Replaces}
use Rattle.fold.proofs.Swapped.{swapped_lacking}
use Rattle.fold.proofs.TransitionFused.{transition_replaces, transition_kept}

pub fusion_applies : (n : PetriNet) (f : Fusion) → fusion_of n ≡ Some f → Applies n f
fusion_applies n f e =
    go (lowest n.transitions (place_fusible n)) (lowest n.places (transition_fusible n))
    (lowest_is_lowest n.transitions (place_fusible n)) (lowest_is_lowest n.places (transition_fusible n)) e
  where
    go : (o o' : Option ℕ) → Lowest n.transitions (place_fusible n) o → Lowest n.places (transition_fusible n) o'
        → first_fusion (option_map Places o) (option_map Transitions o') ≡ Some f → Applies n f
    go (Some t) o' (lt, can, low) h is = let same : Places t ≡ f = cc in subst (Applies n) same (lt, can)
    go None (Some m) h (lt, can, low) is = let same : Transitions m ≡ f = cc in subst (Applies n) same (lt, can)
    go None None h h' is = absurd (let z : ◌≡◌ {A = ℕ} 0 1 = cc in omega arith)

-- both sets of transition t after a replacement
pub same_replaced : (n n' : PetriNet) (x p noted : ℕ) → Kept n → Kept n' → Replaces n n' x p noted → replaced n x p noted ≡ n'
same_replaced n n' x p noted kept kept' r =
    same_drawn (replaced n x p noted) n' (sym r.places_stay) (sym r.transitions_stay) (sym r.marks_swapped)
    (λ t. each t (n.takes t) (n'.takes t) (λ e. ap n'.takes e ∙ r.x_takes_none) (r.takes_swapped t) (λ le. ((kept.ended t le).0, (kept'.ended t (subst (λ k. k ≤ t) (sym r.transitions_stay) le)).0)))
    (λ t. each t (n.gives t) (n'.gives t) (λ e. ap n'.gives e ∙ r.x_gives_none) (r.gives_swapped t) (λ le. ((kept.ended t le).1, (kept'.ended t (subst (λ k. k ≤ t) (sym r.transitions_stay) le)).1)))
  where
    each : (t y y' : ℕ) → (t ≡ x → y' ≡ 0) → (t < n.transitions → (t ≡ x → ⊥) → y' ≡ swapped p noted y) → (n.transitions ≤ t → (y ≡ 0) × (y' ≡ 0))
        → cond (eqb t x) 0 (swapped p noted y) ≡ y'
    each t y y' at_x other past = ⊎_elim
        (λ e. cond-true (eqb t x) 0 (swapped p noted y) (eq-eqb t x e) ∙ sym (at_x e))
        (λ ne. cond-false (eqb t x) 0 (swapped p noted y) (ne_eqb t x ne) ∙ ⊎_elim
        (λ lt. sym (other lt ne))
        (λ le. ap (swapped p noted) (past le).0 ∙ swapped_lacking p noted 0 (in_none p) ∙ sym (past le).1)
        (cases_lt t n.transitions))
        (cases_eq t x)

module _ (n : PetriNet) (kept : Kept n) (few : n.places ≤ 64) where
  pub applied_replaces : (f : Fusion) → Applies n f → Replaces n (net_after n f) (emptied n f) (step_of n f).place (step_of n f).set
  applied_replaces (Places t) (lt, can) =
      let means = place_fusible_means n kept few t lt can in
      subst (λ s. Replaces n (replaced n t (member (n.gives t)) s) t (member (n.gives t)) s) (sym means.takes_a) (place_replaces n t (member (n.takes t)) (member (n.gives t)) kept means)
  applied_replaces (Transitions m) (lt, can) =
      transition_replaces n m (unwrap_or (giver n m) 0) (unwrap_or (taker n m) 0) kept (transition_fusible_means n m lt can)

  pub applied_kept : (f : Fusion) → Applies n f → Kept (net_after n f)
  applied_kept (Places t) (lt, can) =
      let means = place_fusible_means n kept few t lt can in
      subst (λ s. Kept (replaced n t (member (n.gives t)) s)) (sym means.takes_a) (place_kept n t (member (n.takes t)) (member (n.gives t)) kept means)
  applied_kept (Transitions m) (lt, can) =
      transition_kept n m (unwrap_or (giver n m) 0) (unwrap_or (taker n m) 0) kept (transition_fusible_means n m lt can)

  -- the net after a fusion is made by one replacement
  pub applied_same : (f : Fusion) → Applies n f → replaced n (emptied n f) (step_of n f).place (step_of n f).set ≡ net_after n f
  applied_same f can =
      same_replaced n (net_after n f) (emptied n f) (step_of n f).place (step_of n f).set kept (applied_kept f can) (applied_replaces f can)
