-- What the tests for the two fusions say.
use Rattle.std.proofs.Common.{◌≡◌, ℕ, ◌^◌, ◌<◌, ◌≤◌, Bool, true, false, not, ◌&&◌, T, eqb, ◌⊎◌, Some, None, Option, unwrap_or, sym, refl, ◌∙◌, subst, inl, inr, ⊎_elim, arith, pow_mono}
use Rattle.std.proofs.lemmas.Nat.{and_comm}
use Rattle.std.proofs.lemmas.Bool.{both_ways, eqb-true, eqb-false, and_parts, not-true}
use Rattle.net.specs.Lowest.{Lowest, lowest_in}
use Rattle.net.specs.Nets.{PetriNet, Kept}
use Rattle.net.specs.Sets.{has, In, size, intersection}
use Rattle.net.proofs.Lows.{lowest_is_lowest}
use Rattle.net.proofs.Members.{has_in, in_union, in_single, single_in, in_below, same_members, some_in}
use Rattle.net.proofs.Sizes.{size_one, size_some}
use Rattle.net.proofs.Subsets.{single_subset, subset_intersection}
use Rattle.fold.specs.Fusions.{touches, contains, alone, member, exchanges_one, place_fusible, giver, taker, joined, transition_fusible}
use Rattle.fold.proofs.PlaceFused.{PlaceFusible}
use Rattle.fold.proofs.Soles.{alone_tells, sole_only}
use Rattle.fold.proofs.TransitionFused.{TransitionFusible}

in_has : (p s : ℕ) → has s p ≡ true → In p s
in_has p s e = subst T (sym e) tt

out_has : (p s : ℕ) → has s p ≡ false → In p s → ⊥
out_has p s e i = both_ways (has s p) e (has_in p s i)

-- a set of one member, by its member
pub single_member : (s : ℕ) → s < 2 ^ 64 → size s ≡ 1 → s ≡ 2 ^ member s
single_member s below one = go (lowest_in s) (lowest_is_lowest 64 (has s))
  where
    go : (o : Option ℕ) → Lowest 64 (has s) o → s ≡ 2 ^ unwrap_or o 0
    go (Some p) (lt, is, low) =
        let here = in_has p s is in
        same_members s (2 ^ p) (λ q i. (in_single p q).1 ((size_one s).0 (omega arith) q p i here)) (single_subset p s here)
    go None none =
        let (q, i) = (some_in s).0 ((size_some s).1 (omega arith)) in
        absurd (out_has q s (none q (in_below 64 s q below i)) i)

-- a set that does not have every member of a pair has not both
pub not_both : (s pair a b : ℕ) → ((q : ℕ) → In q pair → (q ≡ a) ⊎ (q ≡ b)) → contains s pair ≡ false → In a s → In b s → ⊥
not_both s pair a b members lacks ia ib =
    eqb-false (intersection s pair) pair lacks (and_comm s pair ∙ (subset_intersection pair s).0
    (λ q i. ⊎_elim (λ e. subst (λ x. In x s) (sym e) ia) (λ e. subst (λ x. In x s) (sym e) ib) (members q i)))

pub place_fusible_means : (n : PetriNet) → Kept n → n.places ≤ 64 → (t : ℕ) → t < n.transitions → place_fusible n t ≡ true
    → PlaceFusible n t (member (n.takes t)) (member (n.gives t))
place_fusible_means n kept few t lt e =
    let both : ℕ → Bool = λ u. contains (touches n u) (touches n t) in
    let (one, others) = and_parts (exchanges_one n t) (alone n.transitions both t) e in
    let (takes_one, rest) = and_parts (eqb (size (n.takes t)) 1) (eqb (size (n.gives t)) 1 && not (contains n.marks (touches n t))) one in
    let (gives_one, unmarked) = and_parts (eqb (size (n.gives t)) 1) (not (contains n.marks (touches n t))) rest in
    let wide : 2 ^ n.places ≤ 2 ^ 64 = pow_mono few in
    let taken = kept.taken t in
    let given = kept.given t in
    let ta : n.takes t ≡ 2 ^ member (n.takes t) = single_member (n.takes t) (omega arith) (eqb-true (size (n.takes t)) 1 takes_one) in
    let gb : n.gives t ≡ 2 ^ member (n.gives t) = single_member (n.gives t) (omega arith) (eqb-true (size (n.gives t)) 1 gives_one) in
    let pair : (q : ℕ) → In q (touches n t) → (q ≡ member (n.takes t)) ⊎ (q ≡ member (n.gives t)) =
    λ q i. ⊎_elim (λ j. inl ((in_single (member (n.takes t)) q).0 (subst (In q) ta j))) (λ j. inr ((in_single (member (n.gives t)) q).0 (subst (In q) gb j))) ((in_union (n.takes t) (n.gives t) q).0 i) in
    record {
      t_below = lt;
      takes_a = ta;
      gives_b = gb;
      a_below = in_below n.places (n.takes t) (member (n.takes t)) taken (subst (In (member (n.takes t))) (sym ta) (single_in (member (n.takes t))));
      b_below = in_below n.places (n.gives t) (member (n.gives t)) given (subst (In (member (n.gives t))) (sym gb) (single_in (member (n.gives t))));
      one_marked = not_both n.marks (touches n t) (member (n.takes t)) (member (n.gives t)) pair (not-true (contains n.marks (touches n t)) unmarked);
      no_other = λ u l ne. not_both (touches n u) (touches n t) (member (n.takes t)) (member (n.gives t)) pair (alone_tells n.transitions both t others u l ne);
    }

record Joined (n : PetriNet) (m : ℕ) (o o' : Option ℕ) : Type 0 where
  first : o ≡ Some (unwrap_or o 0)
  second : o' ≡ Some (unwrap_or o' 0)
  takes_one : n.takes (unwrap_or o' 0) ≡ 2 ^ m
  gives_some : n.gives (unwrap_or o' 0) ≡ 0 → ⊥
  clear : intersection (n.gives (unwrap_or o' 0)) (touches n (unwrap_or o 0)) ≡ 0

joined_means : (n : PetriNet) (m : ℕ) (o o' : Option ℕ) → joined n m o o' ≡ true → Joined n m o o'
joined_means n m (Some u) (Some v) e =
    let (takes, rest) = and_parts (eqb (n.takes v) (2 ^ m)) (not (eqb (n.gives v) 0) && eqb (intersection (n.gives v) (touches n u)) 0) e in
    let (some, clear) = and_parts (not (eqb (n.gives v) 0)) (eqb (intersection (n.gives v) (touches n u)) 0) rest in
    record {
      first = refl;
      second = refl;
      takes_one = eqb-true (n.takes v) (2 ^ m) takes;
      gives_some = eqb-false (n.gives v) 0 (not-true (eqb (n.gives v) 0) some);
      clear = eqb-true (intersection (n.gives v) (touches n u)) 0 clear;
    }
joined_means n m (Some u) None e = absurd (both_ways false refl e)
joined_means n m None o' e = absurd (both_ways false refl e)

pub transition_fusible_means : (n : PetriNet) (m : ℕ) → m < n.places → transition_fusible n m ≡ true
    → TransitionFusible n m (unwrap_or (giver n m) 0) (unwrap_or (taker n m) 0)
transition_fusible_means n m lt e =
    let (unmarked, join) = and_parts (not (has n.marks m)) (joined n m (giver n m) (taker n m)) e in
    let j = joined_means n m (giver n m) (taker n m) join in
    let (u_below, u_gives, u-only) = sole_only n.transitions (λ t. has (n.gives t) m) (unwrap_or (giver n m) 0) j.first in
    let (v_below, v_takes, v-only) = sole_only n.transitions (λ t. has (n.takes t) m) (unwrap_or (taker n m) 0) j.second in
    let some = j.gives_some in
    record {
      m_below = lt;
      unmarked = out_has m n.marks (not-true (has n.marks m) unmarked);
      u_below = u_below;
      u_gives = in_has m (n.gives (unwrap_or (giver n m) 0)) u_gives;
      gives_only = λ w l ne. out_has m (n.gives w) (u-only w l ne);
      v_below = v_below;
      v_takes = j.takes_one;
      takes_only = λ w l ne. out_has m (n.takes w) (v-only w l ne);
      v_gives = omega arith;
      v_apart = j.clear;
    }
