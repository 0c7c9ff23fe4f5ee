-- A place swapped for a noted set in a net's sets, and put back into a strand.
use Rattle.std.proofs.Common.{◌≡◌, ℕ, ◌^◌, ◌<◌, Bool, true, false, cond, ◌⊎◌, ◌↔◌, sym, refl, ap, ◌∙◌, subst, inl, inr, ⊎_elim}
use Rattle.std.proofs.lemmas.Nat.{pow_below}
use Rattle.std.proofs.lemmas.Bool.{eq-eqb, ne_eqb}
use Rattle.net.specs.Sets.{In, intersection, union, difference, Meets, Disjoint}
use Rattle.net.proofs.Members.{in_cases, has_in, has_out, in_union, in_difference, in_none, in_single, in_difference_single, in_union_single, none_in}
use Rattle.net.proofs.Subsets.{union_first, union_second, difference_first, subset_below, union_below}
use Rattle.net.proofs.Meets.{meets_cases, apart_intersection}
use Rattle.fold.specs.Fusions.{swapped}
use Rattle.fold.specs.Steps.{put_back}

-- ---- swapped

pub swapped_with : (p noted x : ℕ) → In p x → swapped p noted x ≡ union (difference x (2 ^ p)) noted
swapped_with p noted x i = ap (λ b. cond b (union (difference x (2 ^ p)) noted) x) (has_in p x i)

pub swapped_lacking : (p noted x : ℕ) → (In p x → ⊥) → swapped p noted x ≡ x
swapped_lacking p noted x ni = ap (λ b. cond b (union (difference x (2 ^ p)) noted) x) (has_out p x ni)

-- a member was there and is not p, or came with the noted set
pub in_swapped : (p noted x q : ℕ) → In q (swapped p noted x) ↔ ((In q x × (q ≡ p → ⊥)) ⊎ (In p x × In q noted))
in_swapped p noted x q = ⊎_elim with lacking (in_cases p x)
  where
    Was : ℕ → Type 0
    Was y = In q y ↔ ((In q x × (q ≡ p → ⊥)) ⊎ (In p x × In q noted))

    with : In p x → Was (swapped p noted x)
    with i = subst Was (sym (swapped_with p noted x i)) (
      λ j. ⊎_elim (λ l. inl ((in_difference_single x p q).0 l)) (λ m. inr (i, m)) ((in_union (difference x (2 ^ p)) noted q).0 j),
      ⊎_elim (λ h. union_first (difference x (2 ^ p)) noted q ((in_difference_single x p q).1 h)) (λ h. union_second (difference x (2 ^ p)) noted q h.1),
    )

    lacking : (In p x → ⊥) → Was (swapped p noted x)
    lacking ni = subst Was (sym (swapped_lacking p noted x ni)) (
      λ j. inl (j, λ e. ni (subst (λ y. In y x) e j)),
      ⊎_elim (λ h. h.0) (λ h. absurd (ni h.0)),
    )

-- the place is gone
pub swapped_clear : (p noted x : ℕ) → (In p noted → ⊥) → In p (swapped p noted x) → ⊥
swapped_clear p noted x clear i = ⊎_elim (λ h. h.1 refl) (λ h. clear h.1) ((in_swapped p noted x p).0 i)

pub swapped_below : (k p noted x : ℕ) → noted < 2 ^ k → x < 2 ^ k → swapped p noted x < 2 ^ k
swapped_below k p noted x hn hx =
    ⊎_elim
    (λ i. subst (λ y. y < 2 ^ k) (sym (swapped_with p noted x i))
    (union_below k (difference x (2 ^ p)) noted (subset_below k (difference x (2 ^ p)) x (difference_first x (2 ^ p)) hx) hn))
    (λ ni. subst (λ y. y < 2 ^ k) (sym (swapped_lacking p noted x ni)) hx)
    (in_cases p x)

-- sets that are apart stay apart, where the noted set is apart from both
pub swapped_apart : (p noted a b : ℕ) → Disjoint a b → (In p (union a b) → Disjoint noted (union a b)) → Disjoint (swapped p noted a) (swapped p noted b)
swapped_apart p noted a b apart clear q i j = ⊎_elim
    (λ l. ⊎_elim (λ r. apart q l.0 r.0) (λ r. clear (union_second a b p r.0) q r.1 (union_first a b q l.0)) ((in_swapped p noted b q).0 j))
    (λ l. ⊎_elim (λ r. clear (union_first a b p l.0) q l.1 (union_second a b q r.0)) (λ r. apart p l.0 r.0) ((in_swapped p noted b q).0 j))
    ((in_swapped p noted a q).0 i)

-- ---- put back

put_back_out : (p noted s : ℕ) → Disjoint noted s → put_back p noted s ≡ difference s (2 ^ p)
put_back_out p noted s apart = ap (λ b. cond b (difference s (2 ^ p)) (union s (2 ^ p))) (eq-eqb (intersection noted s) 0 ((apart_intersection noted s).0 apart))

put_back_in : (p noted s : ℕ) → Meets noted s → put_back p noted s ≡ union s (2 ^ p)
put_back_in p noted s m =
    ap (λ b. cond b (difference s (2 ^ p)) (union s (2 ^ p))) (ne_eqb (intersection noted s) 0 (λ z. (apart_intersection noted s).1 z m.0 m.1 m.2))

-- p is in where the set meets the noted one, and every other place stays
pub put_back_same : (p noted s : ℕ) → In p (put_back p noted s) ↔ Meets noted s
put_back_same p noted s = ⊎_elim
    (λ m. subst (λ y. In p y ↔ Meets noted s) (sym (put_back_in p noted s m)) (λ i. m, λ _. (in_union_single s p p).1 (inr refl)))
    (λ a. subst (λ y. In p y ↔ Meets noted s) (sym (put_back_out p noted s a))
    (λ i. absurd (((in_difference_single s p p).0 i).1 refl), λ m. absurd (a m.0 m.1 m.2)))
    (meets_cases noted s)

pub put_back_other : (p noted s q : ℕ) → (q ≡ p → ⊥) → In q (put_back p noted s) ↔ In q s
put_back_other p noted s q ne = ⊎_elim
    (λ m. subst (λ y. In q y ↔ In q s) (sym (put_back_in p noted s m))
    (λ i. ⊎_elim (λ j. j) (λ e. absurd (ne e)) ((in_union_single s p q).0 i), λ j. (in_union_single s p q).1 (inl j)))
    (λ a. subst (λ y. In q y ↔ In q s) (sym (put_back_out p noted s a))
    (λ i. ((in_difference_single s p q).0 i).0, λ j. (in_difference_single s p q).1 (j, ne)))
    (meets_cases noted s)

pub put_back_none : (p noted : ℕ) → put_back p noted 0 ≡ 0
put_back_none p noted = put_back_out p noted 0 (λ q i j. in_none q j)

pub put_back_single : (p noted : ℕ) → (In p noted → ⊥) → put_back p noted (2 ^ p) ≡ 0
put_back_single p noted clear =
    put_back_out p noted (2 ^ p) (λ q i j. clear (subst (λ x. In x noted) ((in_single p q).0 j) i))
    ∙ (none_in (difference (2 ^ p) (2 ^ p))).1 (λ q i. let (j, out) = (in_difference (2 ^ p) (2 ^ p) q).0 i in out j)

pub put_back_below : (k p noted s : ℕ) → p < k → s < 2 ^ k → put_back p noted s < 2 ^ k
put_back_below k p noted s lt hs =
    ⊎_elim
    (λ m. subst (λ y. y < 2 ^ k) (sym (put_back_in p noted s m)) (union_below k s (2 ^ p) hs (pow_below p k lt)))
    (λ a. subst (λ y. y < 2 ^ k) (sym (put_back_out p noted s a)) (subset_below k (difference s (2 ^ p)) s (difference_first s (2 ^ p)) hs))
    (meets_cases noted s)

-- a test between nothing and nothing
pub cond_none : (c : Bool) (y : ℕ) → y ≡ 0 → cond c 0 y ≡ 0
cond_none true y z = refl
cond_none false y z = z
