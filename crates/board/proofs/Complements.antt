-- The complement of a set of k lines.
use Rattle.std.proofs.Common.{◌≡◌, ℕ, zero, suc, ◌-◌, ◌/◌, ◌%◌, ◌^◌, ◌<◌, not, ◌&&◌, eqb, sym, refl, ap, ◌∙◌, pow-suc, arith}
use lib.Bits.{and_lt, xor_lt}
use Rattle.net.specs.Sets.{has, intersection, difference}
use Rattle.net.proofs.Bits.{has_first, has_next, by_digit, digit_below, has_intersection, has_difference, same_bits}

-- the complement has a line where the set has not
pub has_complement : (k s p : ℕ) → s < 2 ^ k → p < k → has (2 ^ k - 1 - s) p ≡ not (has s p)
has_complement zero s p fits lt = absurd (omega arith)
has_complement (suc k) s zero fits lt =
    let e = pow-suc 2 k in
    let low : (2 ^ suc k - 1 - s) % 2 ≡ 1 - s % 2 = omega arith in
    has_first (2 ^ suc k - 1 - s) ∙ ap (λ x. eqb x 1) low
    ∙ by_digit (λ x. eqb (1 - x) 1 ≡ not (eqb x 1)) refl refl (s % 2) (digit_below s) ∙ ap not (sym (has_first s))
has_complement (suc k) s (suc p) fits lt =
    let e = pow-suc 2 k in
    let half : (2 ^ suc k - 1 - s) / 2 ≡ 2 ^ k - 1 - s / 2 = omega arith in
    has_next (2 ^ suc k - 1 - s) p ∙ ap (λ x. has x p) half ∙ has_complement k (s / 2) p (omega arith) (omega arith) ∙ ap not (sym (has_next s p))

-- the common lines of a set and a complement are a difference
pub complement_difference : (k s t : ℕ) → s < 2 ^ k → t < 2 ^ k → intersection s (2 ^ k - 1 - t) ≡ difference s t
complement_difference k s t hs ht =
    same_bits k (intersection s (2 ^ k - 1 - t)) (difference s t) (and_lt k s (2 ^ k - 1 - t) hs (omega arith)) (xor_lt k s (intersection s t) hs (and_lt k s t hs ht))
    (λ p lt. has_intersection s (2 ^ k - 1 - t) p ∙ ap (λ b. has s p && b) (has_complement k t p ht lt) ∙ sym (has_difference s t p))
