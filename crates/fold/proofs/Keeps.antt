-- What every net keeps, a net keeps in which a noted set stands for a place.
use Rattle.std.proofs.Common.{◌≡◌, ℕ, ◌^◌, ◌<◌, ◌≤◌, ◌⊎◌, sym, ap, ◌∙◌, subst, ap₂, inl, inr, ⊎_elim}
use Rattle.std.proofs.lemmas.Bool.{cases_eq, cases_lt}
use Rattle.std.proofs.lemmas.Nat.{pow_pos}
use Rattle.net.specs.Sets.{intersection}
use Rattle.net.specs.Nets.{PetriNet, Kept}
use Rattle.net.proofs.Meets.{apart_intersection}
use Rattle.fold.specs.Fusions.{swapped}
use Rattle.fold.proofs.Swapped.{swapped_below, swapped_apart}
use Rattle.fold.proofs.Replaced.{Replaces}

module _ (n n' : PetriNet) (x p noted : ℕ) (r : Replaces n n' x p noted) (kept : Kept n)
    (ended : (t : ℕ) → n.transitions ≤ t → (n'.takes t ≡ 0) × (n'.gives t ≡ 0)) where
  -- a transition does nothing, or has its sets swapped
  each_transition : (t : ℕ)
      → ((n'.takes t ≡ 0) × (n'.gives t ≡ 0)) ⊎ ((t < n.transitions) × (t ≡ x → ⊥))
  each_transition t = ⊎_elim
      (λ lt. ⊎_elim (λ e. inl (ap n'.takes e ∙ r.x_takes_none, ap n'.gives e ∙ r.x_gives_none)) (λ ne. inr (lt, ne)) (cases_eq t x))
      (λ le. inl (ended t le))
      (cases_lt t n.transitions)

  bounded : (y y' : ℕ) → y < 2 ^ n.places → y' ≡ swapped p noted y → y' < 2 ^ n'.places
  bounded y y' h e =
      subst (λ k. y' < 2 ^ k) (sym r.places_stay)
      (subst (λ z. z < 2 ^ n.places) (sym e) (swapped_below n.places p noted y r.noted_below h))

  empty_bounded : (y : ℕ) → y ≡ 0 → y < 2 ^ n'.places
  empty_bounded y z = subst (λ k. k < 2 ^ n'.places) (sym z) (pow_pos n'.places)

  pub kept_after : Kept n'
  kept_after = record {
    marked = bounded n.marks n'.marks kept.marked r.marks_swapped;
    taken = λ t. ⊎_elim (λ z. empty_bounded (n'.takes t) z.0)
        (λ o. bounded (n.takes t) (n'.takes t) (kept.taken t) (r.takes_swapped t o.0 o.1)) (each_transition t);
    given = λ t. ⊎_elim (λ z. empty_bounded (n'.gives t) z.1)
        (λ o. bounded (n.gives t) (n'.gives t) (kept.given t) (r.gives_swapped t o.0 o.1)) (each_transition t);
    apart = λ t. ⊎_elim (λ z. ap (λ y. intersection y (n'.gives t)) z.0)
        (λ o. ap₂ intersection (r.takes_swapped t o.0 o.1) (r.gives_swapped t o.0 o.1)
        ∙ (apart_intersection (swapped p noted (n.takes t)) (swapped p noted (n.gives t))).0
        (swapped_apart p noted (n.takes t) (n.gives t) ((apart_intersection (n.takes t) (n.gives t)).1 (kept.apart t)) (r.arcs_apart t o.0 o.1))) (each_transition t);
    ended = λ t le. ended t (subst (λ k. k ≤ t) r.transitions_stay le);
  }
