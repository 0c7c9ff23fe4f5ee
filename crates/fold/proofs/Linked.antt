-- Two sets that differ at one place: a strand before a fusion, and after it.
use Rattle.std.proofs.Common.{◌≡◌, ℕ, ◌+◌, ◌^◌, ◌<◌, ◌≤◌, ◌↔◌, sym, refl, ap, ◌∙◌, subst, ⊎_elim, arith}
use Rattle.std.proofs.lemmas.Bool.{cases_eq}
use Rattle.net.specs.Sets.{In, one_in, size, intersection, difference, Disjoint}
use Rattle.net.proofs.Members.{in_cases, in_intersection, in_single, in_difference_single, same_members, none_in, some_in}
use Rattle.net.proofs.Subsets.{intersection_first, difference_first, single_subset, intersection_of_union}
use Rattle.net.proofs.Sizes.{counts_in, counts_out, size_union, size_with}
use Rattle.net.proofs.Meets.{meets_cases, meets_size, apart_size}
use Rattle.fold.specs.Fusions.{swapped}
use Rattle.fold.specs.Steps.{put_back}
use Rattle.fold.proofs.Swapped.{swapped_with, swapped_lacking, put_back_same, put_back_other}

-- s and s' differ at p alone, and p counts in s as the noted set does in s'
pub record Linked (p noted s s' : ℕ) : Type 0 where
  pub off : (q : ℕ) → (q ≡ p → ⊥) → In q s ↔ In q s'
  pub counted : one_in s p ≡ size (intersection noted s')

-- a set without p meets both alike
pub meets_alike : (p x s s' : ℕ) → (In p x → ⊥) → ((q : ℕ) → (q ≡ p → ⊥) → In q s ↔ In q s') → intersection x s ≡ intersection x s'
meets_alike p x s s' clear off =
    same_members (intersection x s) (intersection x s')
    (λ q i. let (l, r) = (in_intersection x s q).0 i in (in_intersection x s' q).1 (l, (off q (other q l)).0 r))
    (λ q i. let (l, r) = (in_intersection x s' q).0 i in (in_intersection x s q).1 (l, (off q (other q l)).1 r))
  where
    other : (q : ℕ) → In q x → q ≡ p → ⊥
    other q i e = clear (subst (λ y. In y x) e i)

-- a set meets s as it meets s' once p is swapped for the noted set
pub swapped_size : (p noted s s' x : ℕ) → (In p x → Disjoint noted x) → Linked p noted s s' → size (intersection (swapped p noted x) s') ≡ size (intersection x s)
swapped_size p noted s s' x apart link = ⊎_elim with lacking (in_cases p x)
  where
    lacking : (In p x → ⊥) → size (intersection (swapped p noted x) s') ≡ size (intersection x s)
    lacking ni = ap (λ y. size (intersection y s')) (swapped_lacking p noted x ni) ∙ ap size (sym (meets_alike p x s s' ni link.off))

    rest_apart : In p x → Disjoint (intersection (difference x (2 ^ p)) s') (intersection noted s')
    rest_apart i q l r = apart i q (intersection_first noted s' q r) (difference_first x (2 ^ p) q (intersection_first (difference x (2 ^ p)) s' q l))

    with : In p x → size (intersection (swapped p noted x) s') ≡ size (intersection x s)
    with i =
        let after : size (intersection (swapped p noted x) s') ≡ size (intersection (difference x (2 ^ p)) s') + size (intersection noted s') =
        ap (λ y. size (intersection y s')) (swapped_with p noted x i) ∙ ap size (intersection_of_union (difference x (2 ^ p)) noted s') ∙ size_union _ _ (rest_apart i) in
        let before = size_with p x s i in
        let rest : size (intersection (difference x (2 ^ p)) s) ≡ size (intersection (difference x (2 ^ p)) s') =
        ap size (meets_alike p (difference x (2 ^ p)) s s' (λ j. ((in_difference_single x p p).0 j).1 refl) link.off) in
        let at_p = link.counted in
        omega arith

-- p is taken out of a set that counts it as it counts the noted set
pub linked_out : (p noted s : ℕ) → (In p noted → ⊥) → one_in s p ≡ size (intersection noted s) → Linked p noted s (difference s (2 ^ p))
linked_out p noted s clear e = record {
  off = differ;
  counted = e ∙ ap size (meets_alike p noted s (difference s (2 ^ p)) clear differ);
}
  where
    differ : (q : ℕ) → (q ≡ p → ⊥) → In q s ↔ In q (difference s (2 ^ p))
    differ q ne = (λ i. (in_difference_single s p q).1 (i, ne), difference_first s (2 ^ p) q)

-- p is put back into a set that meets the noted set at most once
pub linked_back : (p noted s' : ℕ) → size (intersection noted s') ≤ 1 → Linked p noted (put_back p noted s') s'
linked_back p noted s' le = record {
  off = put_back_other p noted s';
  counted = ⊎_elim
      (λ m. let one = (counts_in (put_back p noted s') p).0 ((put_back_same p noted s').1 m) in let some = (meets_size noted s').0 m in omega arith)
      (λ a. (counts_out (put_back p noted s') p).0 (λ i. let m = (put_back_same p noted s').0 i in a m.0 m.1 m.2) ∙ sym ((apart_size noted s').0 a))
      (meets_cases noted s');
}

-- where s has a member, so has s'
pub linked_some : (p noted s s' : ℕ) → Linked p noted s s' → 0 < s → 0 < s'
linked_some p noted s s' link some =
    let (q, i) = (some_in s).0 some in
    ⊎_elim
    (λ e. let one = (counts_in s p).0 (subst (λ y. In y s) e i) in
    let as_many = link.counted in
    let m = (meets_size noted s').1 (omega arith) in (some_in s').1 (m.0, m.2))
    (λ ne. (some_in s').1 (q, (link.off q ne).0 i))
    (cases_eq q p)

-- where s is empty and s' is not, s' is p alone
pub linked_single : (p noted s s' : ℕ) → Linked p noted s s' → s ≡ 0 → 0 < s' → s' ≡ 2 ^ p
linked_single p noted s s' link z some =
    let (q, i) = (some_in s').0 some in
    same_members s' (2 ^ p) (λ x j. (in_single p x).1 (only x j)) (single_subset p s' (subst (λ y. In y s') (only q i) i))
  where
    only : (q : ℕ) → In q s' → q ≡ p
    only q i = ⊎_elim (λ e. e) (λ ne. absurd ((none_in s).0 z q ((link.off q ne).1 i))) (cases_eq q p)
