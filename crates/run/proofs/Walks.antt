-- A set walked by its lowest member, until one passes a test.
use Rattle.std.proofs.Common.{◌≡◌, ℕ, ◌*◌, ◌%◌, ◌^◌, ◌<◌, Bool, true, false, ◌&&◌, T, List, [], ◌∷◌, Some, None, Option, sym, refl, ap, ◌∙◌, subst, ⊎_elim, mod-eq_of_lt, one-mul}
use mathlib.Core.Bool.{beq}
use denote.Ref.{Bor}
use denote.Param.Members.{Mut}
use lib.Pow.{pow-lt}
use Rattle.std.proofs.lemmas.Bool.{both_ways, cases_Bool, cases_eq, and_from, and_left, and_right}
use Rattle.std.specs.Fn.{CalledAt}
use Rattle.std.specs.Iterator.{Yields, FindsItem}
use Rattle.std.specs.List.{FoldsTo}
use Rattle.std.specs.Option.{IfSome}
use Rattle.net.specs.Lowest.{Lowest, lowest_of}
use Rattle.net.specs.Sets.{has, In, difference}
use Rattle.run.specs.Firing.{agrees}
use Rattle.run.specs.Walks.{TakesLowest}
use Rattle.run.specs.declared.places.Places.{Places}
use Rattle.net.proofs.Lows.{lowest_is}
use Rattle.net.proofs.Members.{has_in, in_difference_single}
use Rattle.net.proofs.Subsets.{difference_first, subset_less}

-- what is left lies in the set, and what is gone from it failed the test
pub record Walked (set rest : ℕ) (test : ℕ → Bool) : Type 0 where
  pub inside : (q : ℕ) → has rest q ≡ true → has set q ≡ true
  pub failed : (q : ℕ) → has set q ≡ true → has rest q ≡ false → test q ≡ false

member : (s q : ℕ) → has s q ≡ true → In q s
member s q e = subst T (sym e) tt

pub walk_starts : (set : ℕ) (test : ℕ → Bool) → Walked set set test
walk_starts set test = record { inside = λ q h. h; failed = λ q is out. absurd (both_ways (has set q) out is) }

-- a set without its lowest member is a smaller number
pub walk_falls : (rest p : ℕ) → Lowest 64 (has rest) (Some p) → difference rest (2 ^ p) < rest
walk_falls rest p low = subset_less (difference rest (2 ^ p)) rest (difference_first rest (2 ^ p))
    (λ e. ((in_difference_single rest p p).0 (subst (In p) (sym e) (member rest p low.1))).1 refl)

module _ (set rest p : ℕ) (test : ℕ → Bool) (walked : Walked set rest test) (low : Lowest 64 (has rest) (Some p)) where
  pub walk_goes_on : test p ≡ false → Walked set (difference rest (2 ^ p)) test
  walk_goes_on fails = record {
    inside = λ q is. walked.inside q (has_in q rest (difference_first rest (2 ^ p) q (member (difference rest (2 ^ p)) q is)));
    failed = λ q is out. ⊎_elim
        (λ here. walked_past q is out here)
        (λ gone. walked.failed q is gone)
        (cases_Bool (has rest q));
  }
    where
      walked_past : (q : ℕ) → has set q ≡ true → has (difference rest (2 ^ p)) q ≡ false → has rest q ≡ true → test q ≡ false
      walked_past q is out here =
          ⊎_elim (λ e. ap test e ∙ fails)
          (λ ne. absurd (both_ways (has (difference rest (2 ^ p)) q) out (has_in q (difference rest (2 ^ p)) ((in_difference_single rest p q).1 (member rest q here, ne)))))
          (cases_eq q p)

  -- a member of the set below the lowest that is left has failed
  pub walk_finds : test p ≡ true → Some p ≡ lowest_of set test
  walk_finds passes = lowest_is 64 (λ q. has set q && test q) (Some p) (
    low.0,
    and_from (has set p) (test p) (walked.inside p low.1) passes,
    λ q lt. ⊎_elim (λ is. and_right (has set q) (test q) (walked.failed q is (low.2 q lt))) (λ out. and_left (has set q) (test q) out) (cases_Bool (has set q)),
  )

pub walk_ends : (set rest : ℕ) (test : ℕ → Bool) → Walked set rest test → Lowest 64 (has rest) None → None ≡ lowest_of set test
walk_ends set rest test walked none =
    lowest_is 64 (λ q. has set q && test q) None
    (λ q lt. ⊎_elim (λ is. and_right (has set q) (test q) (walked.failed q is (none q lt))) (λ out. and_left (has set q) (test q) out) (cases_Bool (has set q)))

-- one line as the program makes it
pub one_line : (p : ℕ) → p < 64 → 1 * 2 ^ p % 2 ^ 64 ≡ 2 ^ p
one_line p lt = let small : 2 ^ p < 2 ^ 64 = pow-lt lt in ap (λ k. k % 2 ^ 64) (one-mul (2 ^ p)) ∙ mod-eq_of_lt small

-- a test of two flags, and a flag as it is wanted
pub agrees_as : (wanted lit : Bool) (b : Bool) → beq lit wanted ≡ b → agrees wanted lit ≡ b
agrees_as true true b e = e
agrees_as true false b e = e
agrees_as false true b e = e
agrees_as false false b e = e

-- ---- what `find` gives over a walk

module _ {F : Type 0} {g : Mut F (Bor ℕ × Unit {0}) Bool} (f : F) (set : ℕ) (test : ℕ → Bool)
    (passes : (p : ℕ) (q : F) → CalledAt g f p true q → test p ≡ true)
    (fails : (p : ℕ) (q : F) → CalledAt g f p false q → (q ≡ f) × (test p ≡ false)) where
  abbrev steps : Places → Option ℕ → Places → Type 0
  steps s place t = TakesLowest s.rest place t.rest

  abbrev asked : F → ℕ → F → Type 0
  asked i p j = CalledAt g i p false j

  -- places that were asked and failed have been walked
  walked_by : (ps : List ℕ) (s t : Places) (q : F) → Yields steps s ps t → FoldsTo asked f ps q → Walked set s.rest test → Walked set t.rest test × (q ≡ f)
  walked_by [] s t q same still walked = (subst (λ (k : Places). Walked set k.rest test) same walked, sym still)
  walked_by (p ∷ ps) s t q (m, took, more) (j, called, rest) walked =
      let (stays, failed) = fails p j called in
      let next : Walked set m.rest test = subst (λ k. Walked set k test) (sym took.1) (walk_goes_on set s.rest p test walked took.0 failed) in
      walked_by ps m t q more (subst (λ i. FoldsTo asked i ps q) stays rest) next

  pub lowest_by_walk : (s u : Places) (r : Option ℕ) → s.rest ≡ set → FindsItem steps g s f r u → r ≡ lowest_of set test
  lowest_by_walk s u r is (ps, j, (t, took, last), calls, end) =
      let (walked, still) = walked_by ps s t j took calls (subst (λ k. Walked set k test) (sym is) (walk_starts set test)) in
      ends r t u last walked (subst (λ i. IfSome r (λ x. (h : F) × CalledAt g i x true h)) still end)
    where
      ends : (o : Option ℕ) (t u : Places) → steps t o u → Walked set t.rest test → IfSome o (λ x. (h : F) × CalledAt g f x true h) → o ≡ lowest_of set test
      ends (Some p) t u (low, left) walked (h, called) = walk_finds set t.rest p test walked low (passes p h called)
      ends None t u (low, left) walked none = walk_ends set t.rest test walked low
