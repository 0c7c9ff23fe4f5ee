-- A net in which a noted set stands for a place has a cover where the first net has one.
use Rattle.std.proofs.Common.{◌≡◌, ℕ, ◌^◌, ◌<◌, cond, ◌⊎◌, ◌↔◌, List, [], ◌∷◌, map, sym, ap, ◌∙◌, subst, inl, inr, ⊎_elim}
use Rattle.std.specs.List.{AllByRecursion}
use Rattle.std.proofs.lemmas.Bool.{cases_eq, eq-eqb, ne_eqb}
use Rattle.net.specs.Sets.{difference}
use Rattle.net.specs.Nets.{PetriNet}
use Rattle.net.specs.Strands.{Strand, Occurs, Cover, HasCover}
use Rattle.net.proofs.Members.{in_single, in_difference_single, in_below, none_in, some_in}
use Rattle.net.proofs.Listed.{occurs_here, occurs_later, occurs_cases, occurs_in_none, every_weaker, every_map, occurs_map}
use Rattle.fold.specs.Steps.{put_back}
use Rattle.fold.proofs.Patches.{some_of}
use Rattle.fold.proofs.Swapped.{put_back_same, put_back_other, put_back_none}
use Rattle.fold.proofs.Replaced.{Replaces, strand_out, strand_single, strand_or_none}

-- a list of strands and empties in which every place occurs
pub record Patched (n : PetriNet) (ss : List ℕ) : Type 0 where
  pub each : AllByRecursion (λ s. Strand n s ⊎ (s ≡ 0)) ss
  pub all_places : (p : ℕ) → p < n.places → Occurs p ss

pub patched_from : (n : PetriNet) (ss : List ℕ) → Cover n ss → Patched n ss
patched_from n ss cover = record {
  each = every_weaker (Strand n) (λ s. Strand n s ⊎ (s ≡ 0)) (λ s strand. inl strand) ss cover.strands;
  all_places = cover.all_places;
}

some_of_none : (s : ℕ) (ss : List ℕ) → s ≡ 0 → some_of (s ∷ ss) ≡ some_of ss
some_of_none s ss z = ap (λ b. cond b (some_of ss) (s ∷ some_of ss)) (eq-eqb s 0 z)

some_of_some : (s : ℕ) (ss : List ℕ) → (s ≡ 0 → ⊥) → some_of (s ∷ ss) ≡ s ∷ some_of ss
some_of_some s ss nz = ap (λ b. cond b (some_of ss) (s ∷ some_of ss)) (ne_eqb s 0 nz)

every_some_of : (P : ℕ → Type 0) (ss : List ℕ) → AllByRecursion (λ s. P s ⊎ (s ≡ 0)) ss → AllByRecursion P (some_of ss)
every_some_of P [] all = tt
every_some_of P (s ∷ ss) all = ⊎_elim
    (λ z. subst (AllByRecursion P) (sym (some_of_none s ss z)) (every_some_of P ss all.1))
    (λ nz. subst (AllByRecursion P) (sym (some_of_some s ss nz)) (⊎_elim (λ h. h) (λ z. absurd (nz z)) all.0, every_some_of P ss all.1))
    (cases_eq s 0)

occurs_some_of : (p : ℕ) (ss : List ℕ) → Occurs p ss → Occurs p (some_of ss)
occurs_some_of p [] at = absurd (occurs_in_none p at)
occurs_some_of p (s ∷ ss) at = ⊎_elim
    (λ z. subst (Occurs p) (sym (some_of_none s ss z))
    (⊎_elim (λ i. absurd ((none_in s).0 z p i)) (occurs_some_of p ss) (occurs_cases p s ss at)))
    (λ nz. subst (Occurs p) (sym (some_of_some s ss nz))
    (⊎_elim (occurs_here p s (some_of ss)) (λ later. occurs_later p s (some_of ss) (occurs_some_of p ss later)) (occurs_cases p s ss at)))
    (cases_eq s 0)

-- without its empties it is a cover
pub cover_from : (n : PetriNet) (ss : List ℕ) → Patched n ss → Cover n (some_of ss)
cover_from n ss patched = record {
  strands = every_some_of (Strand n) ss patched.each;
  all_places = λ p lt. occurs_some_of p ss (patched.all_places p lt);
}

module _ (n n' : PetriNet) (x p noted : ℕ) (r : Replaces n n' x p noted) where
  -- p alone, and each strand without p
  pub cover_out : (ss : List ℕ) → Cover n ss → Cover n' (2 ^ p ∷ map (λ s. difference s (2 ^ p)) ss)
  cover_out ss cover = record {
    strands = (strand_single n n' x p noted r, every_map (Strand n) (Strand n') (λ s. difference s (2 ^ p)) (strand_out n n' x p noted r) ss cover.strands);
    all_places = λ q lt. ⊎_elim
        (λ e. occurs_here q (2 ^ p) (map (λ s. difference s (2 ^ p)) ss) ((in_single p q).1 e))
        (λ ne. occurs_later q (2 ^ p) (map (λ s. difference s (2 ^ p)) ss)
        (occurs_map (Strand n) q q (λ s. difference s (2 ^ p))
        (λ s strand i. (in_difference_single s p q).1 (i, ne)) ss cover.strands (cover.all_places q (subst (λ k. q < k) r.places_stay lt))))
        (cases_eq q p);
  }

  -- what is a strand or empty, with p put back, is a strand or empty
  pub piece_back : (s : ℕ) → Strand n' s ⊎ (s ≡ 0) → Strand n (put_back p noted s) ⊎ (put_back p noted s ≡ 0)
  piece_back s h = ⊎_elim (strand_or_none n n' x p noted r s) (λ z. inr (ap (put_back p noted) z ∙ put_back_none p noted)) h

  pub patched_back : (ss : List ℕ) → Patched n' ss → Patched n (map (put_back p noted) ss)
  patched_back ss patched = record {
    each = every_map (λ s. Strand n' s ⊎ (s ≡ 0)) (λ s. Strand n s ⊎ (s ≡ 0)) (put_back p noted) piece_back ss patched.each;
    -- another place stays where p is put back, and p comes with each noted place
    all_places = λ q lt. ⊎_elim
        (λ e. subst (λ k. Occurs k (map (put_back p noted) ss)) (sym e) at_p)
        (λ ne. occurs_map (λ s. Strand n' s ⊎ (s ≡ 0)) q q (put_back p noted) (λ s h. (put_back_other p noted s q ne).1) ss patched.each
        (patched.all_places q (subst (λ k. q < k) (sym r.places_stay) lt)))
        (cases_eq q p);
  }
    where
      at_p : Occurs p (map (put_back p noted) ss)
      at_p =
          let (m, i) = (some_in noted).0 r.noted_some in
          let lt = in_below n.places noted m r.noted_below i in
          occurs_map (λ s. Strand n' s ⊎ (s ≡ 0)) m p (put_back p noted) (λ s h j. (put_back_same p noted s).1 (m, i, j)) ss patched.each
          (patched.all_places m (subst (λ k. m < k) (sym r.places_stay) lt))

  -- each strand with p put back, without the empties
  pub cover_back : (ss : List ℕ) → Cover n' ss → Cover n (some_of (map (put_back p noted) ss))
  cover_back ss cover = cover_from n (map (put_back p noted) ss) (patched_back ss (patched_from n' ss cover))

  pub covers_both_ways : HasCover n' ↔ HasCover n
  covers_both_ways = (
    λ has-cover. (some_of (map (put_back p noted) has-cover.0), cover_back has-cover.0 has-cover.1),
    λ has-cover. (2 ^ p ∷ map (λ s. difference s (2 ^ p)) has-cover.0, cover_out has-cover.0 has-cover.1),
  )
