-- A set that is copied line by line.
use Rattle.std.specs.List.{fold, range_with_len}
use Rattle.std.proofs.Common.{◌≡◌, ℕ, zero, suc, ◌+◌, ◌*◌, ◌%◌, ◌^◌, ◌<◌, ◌≤◌, Bool, true, false, ◌||◌, sym, refl, ap, ◌∙◌, subst, ⊎_elim, arith, pow_mono}
use lib.Pow.{pow-lt}
use lib.Bits.{bit_or, or_lt, or_zero_r}
use Rattle.std.specs.Int.{from_bool}
use Rattle.std.proofs.Math.Bool.{or-false, or-true}
use Rattle.std.proofs.lemmas.Nat.{one_shl}
use Rattle.std.proofs.lemmas.Bool.{cases_eq, eq-eqb, ne_eqb}
use Rattle.net.specs.Sets.{has}
use Rattle.net.proofs.Members.{has_past}
use Rattle.net.proofs.Bits.{has_union, has_single, same_bits}

-- the lines below n are copied, and no others
pub record Copied (lit n set : ℕ) : Type 0 where
  pub below : set < 2 ^ n
  pub same : (k : ℕ) → k < n → has set k ≡ has lit k

pub copied_none : (lit : ℕ) → Copied lit 0 0
copied_none lit = record { below = omega arith; same = λ k lt. absurd (omega arith) }

module _ (lit n set : ℕ) (so : Copied lit n set) where
  pub copied_unlit : has lit n ≡ false → Copied lit (n + 1) set
  copied_unlit off = record {
    below = let le : 2 ^ n ≤ 2 ^ (n + 1) = pow_mono (omega arith) in let lt = so.below in omega arith;
    same = λ k lt. ⊎_elim
        (λ e. has_past n set k so.below (omega arith) ∙ sym (ap (has lit) e ∙ off))
        (λ ne. so.same k (omega arith)) (cases_eq k n);
  }

  pub copied_lit : n < 64 → has lit n ≡ true → Copied lit (n + 1) (bit_or set (1 * 2 ^ n % 2 ^ 64))
  copied_lit fits on =
      subst (λ one. Copied lit (n + 1) (bit_or set one)) (sym (one_shl n 64 fits))
      (record {
        below = let le : 2 ^ n < 2 ^ (n + 1) = pow-lt (omega arith) in let lt = so.below in or_lt (n + 1) set (2 ^ n) (omega arith) le;
        same = λ k lt. has_union set (2 ^ n) k ∙ ap (λ b. has set k || b) (has_single n k) ∙ ⊎_elim
            (λ e. ap (λ b. has set k || b) (eq-eqb n k (sym e)) ∙ or-true (has set k) ∙ sym (ap (has lit) e ∙ on))
            (λ ne. ap (λ b. has set k || b) (ne_eqb n k (λ e. ne (sym e))) ∙ or-false (has set k) ∙ so.same k (omega arith)) (cases_eq k n);
      })

-- a set with this line more, if it is lit
abbrev pub copy_line : ℕ → ℕ → ℕ → ℕ
copy_line lit set n = bit_or set (from_bool (has lit n) * 2 ^ n % 2 ^ 64)

module _ (lit : ℕ) where
  copied_line : (n set : ℕ) → n < 64 → (b : Bool) → has lit n ≡ b → Copied lit n set → Copied lit (n + 1) (bit_or set (from_bool b * 2 ^ n % 2 ^ 64))
  copied_line n set fits true is so = copied_lit lit n set so fits is
  copied_line n set fits false is so =
      let none : 0 * 2 ^ n % 2 ^ 64 ≡ 0 = omega arith in
      subst (Copied lit (n + 1)) (sym (ap (bit_or set) none ∙ or_zero_r set)) (copied_unlit lit n set so is)

  -- k lines more, from line n on
  pub copied_more : (k n set : ℕ) → n + k ≤ 64 → Copied lit n set → Copied lit (n + k) (fold (copy_line lit) set (range_with_len n k))
  copied_more zero n set fits so = subst (λ j. Copied lit j set) (omega arith) so
  copied_more (suc k) n set fits so =
      let next = copy_line lit set n in
      subst (λ j. Copied lit j (fold (copy_line lit) next (range_with_len (n + 1) k))) (omega arith)
      (copied_more k (n + 1) next (omega arith) (copied_line n set (omega arith) (has lit n) refl so))

pub copied_all : (lit set : ℕ) → lit < 2 ^ 64 → Copied lit 64 set → set ≡ lit
copied_all lit set fits so = same_bits 64 set lit so.below fits so.same
