-- The one number that passes a test.
use Rattle.std.proofs.Common.{◌≡◌, ℕ, ◌<◌, Bool, true, false, not, ◌&&◌, eqb, is_some, Some, None, Option, sym, refl, ap, ◌∙◌, subst, ⊎_elim, arith}
use Rattle.std.proofs.lemmas.Bool.{both_ways, cases_eq, cases_lt, cases_Bool, and_from, and_left, and_right, not_from_true, not_from_false, cond-true, cond-false, eq-eqb, ne_eqb}
use Rattle.net.specs.Lowest.{lowest, Lowest}
use Rattle.net.proofs.Lows.{lowest_is, lowest_is_lowest, lowest_when_none}
use Rattle.fold.specs.Fusions.{alone, only_if, sole}

-- one test of another number than i
abbrev pub other : (ℕ → Bool) → ℕ → ℕ → Bool
other test i j = not (eqb j i) && test j

pub other_passes : (test : ℕ → Bool) (i j : ℕ) → (j ≡ i → ⊥) → test j ≡ true → other test i j ≡ true
other_passes test i j ne e = and_from (not (eqb j i)) (test j) (not_from_false (eqb j i) (ne_eqb j i ne)) e

pub other_same : (test : ℕ → Bool) (i j : ℕ) → j ≡ i → other test i j ≡ false
other_same test i j e = and_left (not (eqb j i)) (test j) (not_from_true (eqb j i) (eq-eqb j i e))

pub other_fails : (test : ℕ → Bool) (i j : ℕ) → test j ≡ false → other test i j ≡ false
other_fails test i j e = and_right (not (eqb j i)) (test j) e

pub alone_when : (k : ℕ) (test : ℕ → Bool) (i : ℕ) → lowest k (other test i) ≡ None → alone k test i ≡ true
alone_when k test i e = ap (λ o. not (is_some o)) e

pub not_alone : (k : ℕ) (test : ℕ → Bool) (i j : ℕ) → j < k → (j ≡ i → ⊥) → test j ≡ true → alone k test i ≡ false
not_alone k test i j lt ne e = go (lowest k (other test i)) (lowest_is_lowest k (other test i))
  where
    go : (o : Option ℕ) → Lowest k (other test i) o → not (is_some o) ≡ false
    go (Some p) low = refl
    go None fails = absurd (both_ways (other test i j) (fails j lt) (other_passes test i j ne e))

pub alone_tells : (k : ℕ) (test : ℕ → Bool) (i : ℕ) → alone k test i ≡ true → (j : ℕ) → j < k → (j ≡ i → ⊥) → test j ≡ false
alone_tells k test i a j lt ne = ⊎_elim (λ e. absurd (both_ways (alone k test i) (not_alone k test i j lt ne e) a)) (λ e. e) (cases_Bool (test j))

-- the number passes and no other below k does; or none below k passes
abbrev pub Only : ℕ → (ℕ → Bool) → Option ℕ → Type 0
Only k test (Some u) = (u < k) × (test u ≡ true) × ((j : ℕ) → j < k → (j ≡ u → ⊥) → test j ≡ false)
Only k test None = (j : ℕ) → j < k → test j ≡ false

pub only_sole : (k : ℕ) (test : ℕ → Bool) (o : Option ℕ) → Only k test o → o ≡ sole k test
only_sole k test (Some u) (lt, e, others) =
    sym (ap (only_if (alone k test)) (sym (lowest_is k test (Some u) (lt, e, λ q l. others q (omega arith) (λ s. omega arith))))
    ∙ cond-true (alone k test u) (Some u) None (alone_when k test u (lowest_when_none k (other test u)
    (λ j l. ⊎_elim (other_same test u j) (λ ne. other_fails test u j (others j l ne)) (cases_eq j u)))))
only_sole k test None fails = sym (ap (only_if (alone k test)) (lowest_when_none k test fails))

-- where two pass, there is no sole one
pub two_not_sole : (k : ℕ) (test : ℕ → Bool) (u v : ℕ) → u < k → v < k → (u ≡ v → ⊥) → test u ≡ true → test v ≡ true → sole k test ≡ None
two_not_sole k test u v lu lv ne eu ev = go (lowest k test)
  where
    go : (o : Option ℕ) → only_if (alone k test) o ≡ None
    go None = refl
    go (Some p) = cond-false (alone k test p) (Some p) None (⊎_elim
        (λ e. not_alone k test p v lv (λ s. ne (e ∙ sym s)) ev)
        (λ np. not_alone k test p u lu np eu)
        (cases_eq u p))

pub sole_only : (k : ℕ) (test : ℕ → Bool) (u : ℕ) → sole k test ≡ Some u → Only k test (Some u)
sole_only k test u e = go (lowest k test) (lowest_is_lowest k test) e
  where
    go : (o : Option ℕ) → Lowest k test o → only_if (alone k test) o ≡ Some u → Only k test (Some u)
    go None fails none = absurd (let z : ◌≡◌ {A = ℕ} 0 1 = cc in omega arith)
    go (Some p) (lt, passes, below) is = ⊎_elim
        (λ a. let found = sym (cond-true (alone k test p) (Some p) None a) ∙ is in
        let same : p ≡ u = cc in
        subst (λ q. Only k test (Some q)) same (lt, passes, alone_tells k test p a))
        (λ a. let none = sym (cond-false (alone k test p) (Some p) None a) ∙ is in
        absurd (let z : ◌≡◌ {A = ℕ} 0 1 = cc in omega arith))
        (cases_Bool (alone k test p))

-- the first that passes is the sole one where none behind it does
pub sole_behind : (k : ℕ) (test : ℕ → Bool) (u : ℕ) → u < k → test u ≡ true → ((j : ℕ) → j < u → test j ≡ false) → ((j : ℕ) → u < j → j < k → test j ≡ false) → Some u ≡ sole k test
sole_behind k test u lt e before behind =
    only_sole k test (Some u) (lt, e, λ j l ne. ⊎_elim (λ less. before j less) (λ le. behind j (omega arith) l) (cases_lt j u))
