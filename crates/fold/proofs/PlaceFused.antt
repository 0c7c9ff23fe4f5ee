-- Fusing two places: 2 ^ a stands for b.
use Rattle.std.proofs.Common.{◌≡◌, ℕ, ◌^◌, ◌<◌, ◌≤◌, cond, eqb, sym, refl, ap, ◌∙◌, subst, inr}
use Rattle.std.proofs.lemmas.Nat.{pow_below, pow_pos}
use Rattle.std.proofs.lemmas.Bool.{eq-eqb, ne_eqb}
use Rattle.net.specs.Sets.{In, Disjoint}
use Rattle.net.specs.Nets.{PetriNet, Kept}
use Rattle.net.proofs.Members.{in_none, in_single, single_in}
use Rattle.net.proofs.Sizes.{counts_once, size_intersection_single}
use Rattle.net.proofs.Meets.{apart_intersection}
use Rattle.fold.specs.Fusions.{touches, swapped, replaced}
use Rattle.fold.proofs.Swapped.{swapped_lacking, cond_none}
use Rattle.fold.proofs.Replaced.{Replaces}
use Rattle.fold.proofs.Keeps.{kept_after}

-- transition t takes just a and gives just b, not both are marked, and no other transition touches both
pub record PlaceFusible (n : PetriNet) (t a b : ℕ) : Type 0 where
  pub t_below : t < n.transitions
  pub takes_a : n.takes t ≡ 2 ^ a
  pub gives_b : n.gives t ≡ 2 ^ b
  pub a_below : a < n.places
  pub b_below : b < n.places
  pub one_marked : In a n.marks → In b n.marks → ⊥
  pub no_other : (u : ℕ) → u < n.transitions → (u ≡ t → ⊥) → In a (touches n u) → In b (touches n u) → ⊥

-- a set that has not both a and b, and has b, is apart from a
single_apart : (a b y : ℕ) → (In a y → In b y → ⊥) → In b y → Disjoint (2 ^ a) y
single_apart a b y never j q is there = never (subst (λ x. In x y) ((in_single a q).0 is) there) j

pub place_replaces : (n : PetriNet) (t a b : ℕ) → Kept n → PlaceFusible n t a b → Replaces n (replaced n t b (2 ^ a)) t b (2 ^ a)
place_replaces n t a b kept can = record {
  places_stay = refl;
  transitions_stay = refl;
  x_below = can.t_below;
  p_below = can.b_below;
  noted_below = pow_below a n.places can.a_below;
  noted_some = pow_pos a;
  noted_clear = λ i.
      (apart_intersection (n.takes t) (n.gives t)).1 (kept.apart t) b (subst (In b) (sym can.takes_a) i) (subst (In b) (sym can.gives_b) (single_in b));
  x_joins = inr (can.takes_a, can.gives_b);
  x_takes_none = ap (λ c. cond c 0 (swapped b (2 ^ a) (n.takes t))) (eq-eqb t t refl);
  x_gives_none = ap (λ c. cond c 0 (swapped b (2 ^ a) (n.gives t))) (eq-eqb t t refl);
  marks_swapped = refl;
  takes_swapped = λ u lt ne. ap (λ c. cond c 0 (swapped b (2 ^ a) (n.takes u))) (ne_eqb u t ne);
  gives_swapped = λ u lt ne. ap (λ c. cond c 0 (swapped b (2 ^ a) (n.gives u))) (ne_eqb u t ne);
  marks_apart = single_apart a b n.marks can.one_marked;
  arcs_apart = λ u lt ne. single_apart a b (touches n u) (can.no_other u lt ne);
  noted_thin = λ s strand. subst (λ k. k ≤ 1) (sym (size_intersection_single a s)) (counts_once s a);
}

pub place_kept : (n : PetriNet) (t a b : ℕ) → Kept n → PlaceFusible n t a b → Kept (replaced n t b (2 ^ a))
place_kept n t a b kept can =
    kept_after n (replaced n t b (2 ^ a)) t b (2 ^ a) (place_replaces n t a b kept can) kept
    (λ u le. (
      cond_none (eqb u t) (swapped b (2 ^ a) (n.takes u)) (moved_none (n.takes u) (kept.ended u le).0),
      cond_none (eqb u t) (swapped b (2 ^ a) (n.gives u)) (moved_none (n.gives u) (kept.ended u le).1),
    ))
  where
    moved_none : (y : ℕ) → y ≡ 0 → swapped b (2 ^ a) y ≡ 0
    moved_none y z = ap (swapped b (2 ^ a)) z ∙ swapped_lacking b (2 ^ a) 0 (in_none b)
