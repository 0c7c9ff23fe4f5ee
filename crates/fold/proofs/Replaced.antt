-- A net in which a noted set stands for a place, and one transition does nothing: both fusions are of this kind. Its strands are those of the first net.
use Rattle.std.proofs.Common.{◌≡◌, ℕ, ◌^◌, ◌<◌, ◌≤◌, ◌⊎◌, sym, ap, ◌∙◌, subst, inl, inr, ⊎_elim, arith}
use Rattle.std.proofs.lemmas.Nat.{pow_below, pow_pos}
use Rattle.std.proofs.lemmas.Bool.{cases_eq}
use Rattle.net.specs.Sets.{In, one_in, size, intersection, difference, Disjoint}
use Rattle.net.specs.Nets.{PetriNet}
use Rattle.net.specs.Strands.{EvenAt, ThinAt, Thin, Strand}
use Rattle.net.proofs.Members.{in_none, in_single}
use Rattle.net.proofs.Subsets.{union_first, union_second, difference_first, subset_below}
use Rattle.net.proofs.Sizes.{counts_once, size_none, size_intersection_single}
use Rattle.net.proofs.Meets.{apart_size, apart_subset}
use Rattle.net.proofs.Thins.{thin_single}
use Rattle.fold.specs.Fusions.{touches, swapped}
use Rattle.fold.specs.Steps.{put_back}
use Rattle.fold.proofs.Swapped.{swapped_clear, put_back_below, put_back_single}
use Rattle.fold.proofs.Linked.{Linked, meets_alike, swapped_size, linked_out, linked_back, linked_some, linked_single}

-- n' is n with the noted set in place of p, and without the transition x, which joined the two
pub record Replaces (n n' : PetriNet) (x p noted : ℕ) : Type 0 where
  pub places_stay : n'.places ≡ n.places
  pub transitions_stay : n'.transitions ≡ n.transitions
  pub x_below : x < n.transitions
  pub p_below : p < n.places
  pub noted_below : noted < 2 ^ n.places
  pub noted_some : 0 < noted
  pub noted_clear : In p noted → ⊥
  pub x_joins : ((n.takes x ≡ 2 ^ p) × (n.gives x ≡ noted)) ⊎ ((n.takes x ≡ noted) × (n.gives x ≡ 2 ^ p))
  pub x_takes_none : n'.takes x ≡ 0
  pub x_gives_none : n'.gives x ≡ 0
  pub marks_swapped : n'.marks ≡ swapped p noted n.marks
  pub takes_swapped : (t : ℕ) → t < n.transitions → (t ≡ x → ⊥) → n'.takes t ≡ swapped p noted (n.takes t)
  pub gives_swapped : (t : ℕ) → t < n.transitions → (t ≡ x → ⊥) → n'.gives t ≡ swapped p noted (n.gives t)
  pub marks_apart : In p n.marks → Disjoint noted n.marks
  pub arcs_apart : (t : ℕ) → t < n.transitions → (t ≡ x → ⊥) → In p (touches n t) → Disjoint noted (touches n t)
  pub noted_thin : (s : ℕ) → Strand n' s → size (intersection noted s) ≤ 1

module _ (n n' : PetriNet) (x p noted : ℕ) (r : Replaces n n' x p noted) where
  below_too : (t : ℕ) → t < n'.transitions → t < n.transitions
  below_too t lt = subst (λ k. t < k) r.transitions_stay lt

  -- in n' no transition has p
  takes_clear : (t : ℕ) → t < n.transitions → In p (n'.takes t) → ⊥
  takes_clear t lt i = ⊎_elim
      (λ e. in_none p (subst (In p) (ap n'.takes e ∙ r.x_takes_none) i))
      (λ ne. swapped_clear p noted (n.takes t) r.noted_clear (subst (In p) (r.takes_swapped t lt ne) i))
      (cases_eq t x)

  gives_clear : (t : ℕ) → t < n.transitions → In p (n'.gives t) → ⊥
  gives_clear t lt i = ⊎_elim
      (λ e. in_none p (subst (In p) (ap n'.gives e ∙ r.x_gives_none) i))
      (λ ne. swapped_clear p noted (n.gives t) r.noted_clear (subst (In p) (r.gives_swapped t lt ne) i))
      (cases_eq t x)

  takes_apart : (t : ℕ) → t < n.transitions → (t ≡ x → ⊥) → In p (n.takes t) → Disjoint noted (n.takes t)
  takes_apart t lt ne i =
      let subset = union_first (n.takes t) (n.gives t) in
      apart_subset noted (n.takes t) (touches n t) subset (r.arcs_apart t lt ne (subset p i))

  gives_apart : (t : ℕ) → t < n.transitions → (t ≡ x → ⊥) → In p (n.gives t) → Disjoint noted (n.gives t)
  gives_apart t lt ne i =
      let subset = union_second (n.takes t) (n.gives t) in
      apart_subset noted (n.gives t) (touches n t) subset (r.arcs_apart t lt ne (subset p i))

  -- linked sets meet the arcs and the marks alike
  module _ (s s' : ℕ) (link : Linked p noted s s') where
    marks_size : size (intersection n'.marks s') ≡ size (intersection n.marks s)
    marks_size = ap (λ y. size (intersection y s')) r.marks_swapped ∙ swapped_size p noted s s' n.marks r.marks_apart link

    takes_size : (t : ℕ) → t < n.transitions → (t ≡ x → ⊥) → size (intersection (n'.takes t) s') ≡ size (intersection (n.takes t) s)
    takes_size t lt ne =
        ap (λ y. size (intersection y s')) (r.takes_swapped t lt ne) ∙ swapped_size p noted s s' (n.takes t) (takes_apart t lt ne) link

    gives_size : (t : ℕ) → t < n.transitions → (t ≡ x → ⊥) → size (intersection (n'.gives t) s') ≡ size (intersection (n.gives t) s)
    gives_size t lt ne =
        ap (λ y. size (intersection y s')) (r.gives_swapped t lt ne) ∙ swapped_size p noted s s' (n.gives t) (gives_apart t lt ne) link

    noted_size : size (intersection noted s) ≡ one_in s p
    noted_size = ap size (meets_alike p noted s s' r.noted_clear link.off) ∙ sym link.counted

    x_takes_size : size (intersection (n.takes x) s) ≡ one_in s p
    x_takes_size = ⊎_elim
        (λ j. ap (λ y. size (intersection y s)) j.0 ∙ size_intersection_single p s)
        (λ j. ap (λ y. size (intersection y s)) j.0 ∙ noted_size)
        r.x_joins

    x_gives_size : size (intersection (n.gives x) s) ≡ one_in s p
    x_gives_size = ⊎_elim
        (λ j. ap (λ y. size (intersection y s)) j.1 ∙ noted_size)
        (λ j. ap (λ y. size (intersection y s)) j.1 ∙ size_intersection_single p s)
        r.x_joins

    x_takes_none_size : size (intersection (n'.takes x) s') ≡ 0
    x_takes_none_size = ap (λ y. size (intersection y s')) r.x_takes_none ∙ size_none

    x_gives_none_size : size (intersection (n'.gives x) s') ≡ 0
    x_gives_none_size = ap (λ y. size (intersection y s')) r.x_gives_none ∙ size_none

    -- thin and even in one net, so in the other
    thin_after : Thin n s → Thin n' s'
    thin_after thin = record {
      one_mark = let e = marks_size in let h = thin.one_mark in omega arith;
      at_each = λ t lt. ⊎_elim (λ e. subst (ThinAt n' s') (sym e) at_x) (other t (below_too t lt)) (cases_eq t x);
    }
      where
        at_x : ThinAt n' s' x
        at_x = record { takes_one = let e = x_takes_none_size in omega arith; gives_one = let e = x_gives_none_size in omega arith }

        other : (t : ℕ) → t < n.transitions → (t ≡ x → ⊥) → ThinAt n' s' t
        other t lt ne = record {
          takes_one = let e = takes_size t lt ne in let h = (thin.at_each t lt).takes_one in omega arith;
          gives_one = let e = gives_size t lt ne in let h = (thin.at_each t lt).gives_one in omega arith;
        }

    thin_before : Thin n' s' → Thin n s
    thin_before thin = record {
      one_mark = let e = marks_size in let h = thin.one_mark in omega arith;
      at_each = λ t lt. ⊎_elim (λ e. subst (ThinAt n s) (sym e) at_x) (other t lt) (cases_eq t x);
    }
      where
        at_x : ThinAt n s x
        at_x = record {
          takes_one = let e = x_takes_size in let h = counts_once s p in omega arith;
          gives_one = let e = x_gives_size in let h = counts_once s p in omega arith;
        }

        other : (t : ℕ) → t < n.transitions → (t ≡ x → ⊥) → ThinAt n s t
        other t lt ne =
            let there : t < n'.transitions = subst (λ k. t < k) (sym r.transitions_stay) lt in
            record {
              takes_one = let e = takes_size t lt ne in let h = (thin.at_each t there).takes_one in omega arith;
              gives_one = let e = gives_size t lt ne in let h = (thin.at_each t there).gives_one in omega arith;
            }

    even_after : ((t : ℕ) → t < n.transitions → EvenAt n s t) → (t : ℕ) → t < n'.transitions → EvenAt n' s' t
    even_after even t lt = ⊎_elim
        (λ e. subst (EvenAt n' s') (sym e) (x_takes_none_size ∙ sym x_gives_none_size))
        (λ ne. takes_size t (below_too t lt) ne ∙ even t (below_too t lt) ∙ sym (gives_size t (below_too t lt) ne))
        (cases_eq t x)

    even_before : ((t : ℕ) → t < n'.transitions → EvenAt n' s' t) → (t : ℕ) → t < n.transitions → EvenAt n s t
    even_before even t lt = ⊎_elim
        (λ e. subst (EvenAt n s) (sym e) (x_takes_size ∙ sym x_gives_size))
        (λ ne. sym (takes_size t lt ne) ∙ even t (subst (λ k. t < k) (sym r.transitions_stay) lt) ∙ gives_size t lt ne)
        (cases_eq t x)

  -- a strand of n counts p as it counts the noted set
  pub strand_counts : (s : ℕ) → Strand n s → one_in s p ≡ size (intersection noted s)
  strand_counts s strand = ⊎_elim
      (λ j. sym (ap (λ y. size (intersection y s)) j.0 ∙ size_intersection_single p s) ∙ strand.even x r.x_below ∙ ap (λ y. size (intersection y s)) j.1)
      (λ j. sym (ap (λ y. size (intersection y s)) j.1 ∙ size_intersection_single p s) ∙ sym (strand.even x r.x_below) ∙ ap (λ y. size (intersection y s)) j.0)
      r.x_joins

  -- a strand of n, without p, is a strand of n'
  pub strand_out : (s : ℕ) → Strand n s → Strand n' (difference s (2 ^ p))
  strand_out s strand =
      let link = linked_out p noted s r.noted_clear (strand_counts s strand) in
      record {
        some = linked_some p noted s (difference s (2 ^ p)) link strand.some;
        within = subst (λ k. difference s (2 ^ p) < 2 ^ k) (sym r.places_stay) (subset_below n.places (difference s (2 ^ p)) s (difference_first s (2 ^ p)) strand.within);
        thin = thin_after s (difference s (2 ^ p)) link strand.thin;
        even = even_after s (difference s (2 ^ p)) link strand.even;
      }

  -- a strand of n' other than p alone, with p put back, is a strand of n
  pub strand_back : (s' : ℕ) → Strand n' s' → (s' ≡ 2 ^ p → ⊥) → Strand n (put_back p noted s')
  strand_back s' strand more =
      let link = linked_back p noted s' (r.noted_thin s' strand) in
      record {
        some = ⊎_elim (λ z. absurd (more (linked_single p noted (put_back p noted s') s' link z strand.some))) (λ ne. omega arith) (cases_eq (put_back p noted s') 0);
        within = put_back_below n.places p noted s' r.p_below (subst (λ k. s' < 2 ^ k) r.places_stay strand.within);
        thin = thin_before (put_back p noted s') s' link strand.thin;
        even = even_before (put_back p noted s') s' link strand.even;
      }

  -- p alone is a strand of n'
  pub strand_single : Strand n' (2 ^ p)
  strand_single = record {
    some = pow_pos p;
    within = pow_below p n'.places (subst (λ k. p < k) (sym r.places_stay) r.p_below);
    thin = thin_single n' p;
    even = λ t lt. meets_none (n'.takes t) (takes_clear t (below_too t lt)) ∙ sym (meets_none (n'.gives t) (gives_clear t (below_too t lt)));
  }
    where
      meets_none : (y : ℕ) → (In p y → ⊥) → size (intersection y (2 ^ p)) ≡ 0
      meets_none y clear = (apart_size y (2 ^ p)).0 (λ q i j. clear (subst (λ z. In z y) ((in_single p q).0 j) i))

  -- put back, p alone is nothing, and nothing else is
  pub single_back : put_back p noted (2 ^ p) ≡ 0
  single_back = put_back_single p noted r.noted_clear

  pub strand_or_none : (s' : ℕ) → Strand n' s' → Strand n (put_back p noted s') ⊎ (put_back p noted s' ≡ 0)
  strand_or_none s' strand = ⊎_elim (λ e. inr (ap (put_back p noted) e ∙ single_back)) (λ ne. inl (strand_back s' strand ne)) (cases_eq s' (2 ^ p))
