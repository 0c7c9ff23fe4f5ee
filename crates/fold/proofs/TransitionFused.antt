-- Fusing two transitions: what v gives stands for m.
use Rattle.std.proofs.Common.{◌≡◌, ℕ, ◌^◌, ◌<◌, ◌≤◌, cond, eqb, sym, refl, ap, ◌∙◌, subst, inl, ⊎_elim, arith}
use Rattle.std.proofs.lemmas.Bool.{cases_eq, eq-eqb, ne_eqb}
use Rattle.net.specs.Sets.{In, size, intersection, union, difference, Disjoint}
use Rattle.net.specs.Nets.{PetriNet, Kept}
use Rattle.net.specs.Strands.{Strand}
use Rattle.net.proofs.Members.{in_intersection, in_union, single_in}
use Rattle.net.proofs.Subsets.{union_second}
use Rattle.net.proofs.Sizes.{size_subset}
use Rattle.net.proofs.Meets.{apart_intersection}
use Rattle.fold.specs.Fusions.{touches, swapped, transition_fused}
use Rattle.fold.proofs.Swapped.{swapped_with, swapped_lacking, cond_none}
use Rattle.fold.proofs.Replaced.{Replaces}
use Rattle.fold.proofs.Keeps.{kept_after}

-- place m is unmarked, given by u alone and taken by v alone, which takes nothing else and gives something, none of it touched by u
pub record TransitionFusible (n : PetriNet) (m u v : ℕ) : Type 0 where
  pub m_below : m < n.places
  pub unmarked : In m n.marks → ⊥
  pub u_below : u < n.transitions
  pub u_gives : In m (n.gives u)
  pub gives_only : (w : ℕ) → w < n.transitions → (w ≡ u → ⊥) → In m (n.gives w) → ⊥
  pub v_below : v < n.transitions
  pub v_takes : n.takes v ≡ 2 ^ m
  pub takes_only : (w : ℕ) → w < n.transitions → (w ≡ v → ⊥) → In m (n.takes w) → ⊥
  pub v_gives : 0 < n.gives v
  pub v_apart : intersection (n.gives v) (touches n u) ≡ 0

module _ (n : PetriNet) (m u v : ℕ) (kept : Kept n) (can : TransitionFusible n m u v) where
  m_not_given_back : In m (n.gives v) → ⊥
  m_not_given_back = (apart_intersection (n.takes v) (n.gives v)).1 (kept.apart v) m (subst (In m) (sym can.v_takes) (single_in m))

  pub u_other_than_v : u ≡ v → ⊥
  u_other_than_v e = m_not_given_back (subst (λ w. In m (n.gives w)) e can.u_gives)

  u_gives_now : (transition_fused n m u v).gives u ≡ union (difference (n.gives u) (2 ^ m)) (n.gives v)
  u_gives_now =
      ap (λ c. cond c 0 (cond (eqb u u) (union (difference (n.gives u) (2 ^ m)) (n.gives v)) (n.gives u))) (ne_eqb u v u_other_than_v)
      ∙ ap (λ c. cond c (union (difference (n.gives u) (2 ^ m)) (n.gives v)) (n.gives u)) (eq-eqb u u refl)

  other_gives_now : (w : ℕ) → (w ≡ v → ⊥) → (w ≡ u → ⊥) → (transition_fused n m u v).gives w ≡ n.gives w
  other_gives_now w nv nu =
      ap (λ c. cond c 0 (cond (eqb w u) (union (difference (n.gives u) (2 ^ m)) (n.gives v)) (n.gives w))) (ne_eqb w v nv)
      ∙ ap (λ c. cond c (union (difference (n.gives u) (2 ^ m)) (n.gives v)) (n.gives w)) (ne_eqb w u nu)

  gives_now : (w : ℕ) → w < n.transitions → (w ≡ v → ⊥) → (transition_fused n m u v).gives w ≡ swapped m (n.gives v) (n.gives w)
  gives_now w lt nv = ⊎_elim
      (λ e. ap (transition_fused n m u v).gives e ∙ u_gives_now ∙ sym (swapped_with m (n.gives v) (n.gives u) can.u_gives)
      ∙ ap (λ k. swapped m (n.gives v) (n.gives k)) (sym e))
      (λ nu. other_gives_now w nv nu ∙ sym (swapped_lacking m (n.gives v) (n.gives w) (can.gives_only w lt nu)))
      (cases_eq w u)

  arcs_apart_now : (w : ℕ) → w < n.transitions → (w ≡ v → ⊥) → In m (touches n w) → Disjoint (n.gives v) (touches n w)
  arcs_apart_now w lt nv i = ⊎_elim
      (λ took. absurd (can.takes_only w lt nv took))
      (λ gave. ⊎_elim
      (λ eq. subst (λ k. Disjoint (n.gives v) (touches n k)) (sym eq) ((apart_intersection (n.gives v) (touches n u)).1 can.v_apart))
      (λ nu. absurd (can.gives_only w lt nu gave))
      (cases_eq w u))
      ((in_union (n.takes w) (n.gives w) m).0 i)

  -- what v gave, u gives now: a thin set meets it at most once
  given_thin : (s : ℕ) → Strand (transition_fused n m u v) s → size (intersection (n.gives v) s) ≤ 1
  given_thin s strand =
      let given : ℕ = (transition_fused n m u v).gives u in
      let less : size (intersection (n.gives v) s) ≤ size (intersection given s) = size_subset (intersection (n.gives v) s) (intersection given s) (λ q i.
      let (l, j) = (in_intersection (n.gives v) s q).0 i in
      (in_intersection given s q).1 (subst (In q) (sym u_gives_now) (union_second (difference (n.gives u) (2 ^ m)) (n.gives v) q l), j)) in
      let one : size (intersection given s) ≤ 1 = (strand.thin.at_each u can.u_below).gives_one in
      omega arith

  pub transition_replaces : Replaces n (transition_fused n m u v) v m (n.gives v)
  transition_replaces = record {
    places_stay = refl;
    transitions_stay = refl;
    x_below = can.v_below;
    p_below = can.m_below;
    noted_below = kept.given v;
    noted_some = can.v_gives;
    noted_clear = m_not_given_back;
    x_joins = inl (can.v_takes, refl);
    x_takes_none = ap (λ c. cond c 0 (n.takes v)) (eq-eqb v v refl);
    x_gives_none = ap (λ c. cond c 0 (cond (eqb v u) (union (difference (n.gives u) (2 ^ m)) (n.gives v)) (n.gives v))) (eq-eqb v v refl);
    marks_swapped = sym (swapped_lacking m (n.gives v) n.marks can.unmarked);
    takes_swapped = λ w lt nv. ap (λ c. cond c 0 (n.takes w)) (ne_eqb w v nv)
        ∙ sym (swapped_lacking m (n.gives v) (n.takes w) (can.takes_only w lt nv));
    gives_swapped = gives_now;
    marks_apart = λ i. absurd (can.unmarked i);
    arcs_apart = arcs_apart_now;
    noted_thin = given_thin;
  }

pub transition_kept : (n : PetriNet) (m u v : ℕ) → Kept n → TransitionFusible n m u v → Kept (transition_fused n m u v)
transition_kept n m u v kept can =
    kept_after n (transition_fused n m u v) v m (n.gives v) (transition_replaces n m u v kept can) kept
    (λ w le. (
      cond_none (eqb w v) (n.takes w) (kept.ended w le).0,
      cond_none (eqb w v) (cond (eqb w u) (union (difference (n.gives u) (2 ^ m)) (n.gives v)) (n.gives w))
          (ap (λ c. cond c (union (difference (n.gives u) (2 ^ m)) (n.gives v)) (n.gives w)) (ne_eqb w u (λ e. let lt = can.u_below in omega arith)) ∙ (kept.ended w le).1),
    ))
