-- The trailing zeros of a number lead to its lowest member; a number below 2 ^ k as a test.
use Rattle.std.proofs.Common.{◌≡◌, ℕ, zero, suc, ◌-◌, ◌/◌, ◌%◌, ◌^◌, ◌<◌, ◌≤◌, min, false, eqb, leb, Some, Decides, refl, ap, ◌∙◌, ⊎_elim, pow-suc, arith, pow_pos, pow_mono}
use lib.Count.{count_trailing_zeros, under}
use Rattle.std.proofs.lemmas.Bool.{leb-true, le-leb, cases_lt}
use Rattle.net.specs.Sets.{has}
use Rattle.net.specs.Lowest.{Lowest}
use Rattle.net.proofs.Bits.{has_first, has_next, digit_below}

-- a number by its lowest digit d, where t is the lowest member of the rest
by_digit_first : (k s t d : ℕ) → 0 < s → s % 2 ≡ d → d < 2 → (0 < s / 2 → Lowest k (has (s / 2)) (Some t)) → Lowest (suc k) (has s) (Some (under d t))
by_digit_first k s t zero some e lt rest = (omega (arith, (rest (omega arith)).0), has_next s t ∙ (rest (omega arith)).1, low)
  where
    low : (q : ℕ) → q < suc t → has s q ≡ false
    low zero l = has_first s ∙ ap (λ x. eqb x 1) e
    low (suc q) l = has_next s q ∙ (rest (omega arith)).2 q (omega arith)
by_digit_first k s t (suc zero) some e lt rest = (omega arith, has_first s ∙ ap (λ x. eqb x 1) e, λ q l. absurd (omega arith))
by_digit_first k s t (suc (suc d)) some e lt rest = absurd (omega arith)

pub trailing_lowest : (k s : ℕ) → 0 < s → s < 2 ^ k → Lowest k (has s) (Some (count_trailing_zeros k s))
unfolding count_trailing_zeros
trailing_lowest zero s some h = absurd (omega arith)
trailing_lowest (suc k) s some h =
    let p = pow-suc 2 k in
    by_digit_first k s (count_trailing_zeros k (s / 2)) (s % 2) some refl (digit_below s) (λ more. trailing_lowest k (s / 2) more (omega arith))

-- a set of 64 lines lies below 2 ^ k where it is at most the set of all lines below k
pub within_below : (s k all : ℕ) → s < 2 ^ 64 → all ≡ 2 ^ min k 64 - 1 → Decides (leb s all) (s < 2 ^ k)
within_below s k all h is = (
  λ e. let le = leb-true s all e in let pos = pow_pos (min k 64) in let m : 2 ^ min k 64 ≤ 2 ^ k = pow_mono (omega arith) in omega arith,
  λ lt. le-leb s all (⊎_elim
      (λ l. let same : 2 ^ min k 64 ≡ 2 ^ k = (let e : min k 64 ≡ k = omega arith in ap (λ x. 2 ^ x) e) in omega arith)
      (λ l. let same : 2 ^ min k 64 ≡ 2 ^ 64 = (let e : min k 64 ≡ 64 = omega arith in ap (λ x. 2 ^ x) e) in omega arith)
      (cases_lt k 64)),
)
