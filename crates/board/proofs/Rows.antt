-- A row of relays: the set of those that are on, and relays that are set one after another.
use Rattle.std.specs.Prelude.{◌≡◌, ℕ, zero, suc, ◌+◌, ◌*◌, ◌/◌, ◌%◌, ◌^◌, ◌<◌, ◌≤◌, Bool, true, false, cond, List, [], ◌∷◌, length, ◌==◌, nat_eq, slice_set, refl}
use Rattle.std.proofs.Common.{sym, ap, ◌∙◌, ⊎_elim, arith}
use Rattle.std.proofs.lemmas.List.{get_or-set_same, get_or-set_other}
use Rattle.std.proofs.lemmas.Bool.{cases_eq}
use Rattle.net.specs.Sets.{has}
use Rattle.net.proofs.Bits.{has_first, has_next, has_none, same_bits}
use Rattle.board.specs.RelaysFit.{relays_on_fits}
use Rattle.board.specs.Wear.{unused, switched, relay_at, relays_on}
use Rattle.board.specs.declared.relays.relay.Relay.{Relay}

half : (m : ℕ) (b : Bool) → (m * 2 + cond b 1 0) / 2 ≡ m
half m true = omega arith
half m false = omega arith

lowest : (m : ℕ) (b : Bool) → ((m * 2 + cond b 1 0) % 2 == 1) ≡ b
lowest m true = let e : (m * 2 + 1) % 2 ≡ 1 = omega arith in ap (λ k. nat_eq k 1) e
lowest m false = let e : (m * 2 + 0) % 2 ≡ 0 = omega arith in ap (λ k. nat_eq k 1) e

-- a relay is in the set where it is on
pub has_relays_on : (rs : List Relay) (n : ℕ) → (relay_at rs n).on ≡ has (relays_on rs) n
has_relays_on [] n = sym (has_none n)
has_relays_on (r ∷ rs) zero = sym (has_first (relays_on (r ∷ rs)) ∙ lowest (relays_on rs) r.on)
has_relays_on (r ∷ rs) (suc n) = has_relays_on rs n ∙ ap (λ k. has k n) (sym (half (relays_on rs) r.on)) ∙ sym (has_next (relays_on (r ∷ rs)) n)

-- the first n relays are set by s, and the others are as they were
pub record SetBelow (s n : ℕ) (old rs : List Relay) : Type 0 where
  pub done : (k : ℕ) → k < n → relay_at rs k ≡ switched (has s k) (relay_at old k)
  pub rest : (k : ℕ) → n ≤ k → relay_at rs k ≡ relay_at old k

pub set_none : (s : ℕ) (old : List Relay) → SetBelow s 0 old old
set_none s old = record { done = λ k lt. absurd (omega arith); rest = λ k le. refl }

pub set_more : (s n : ℕ) (old rs : List Relay) (r : Relay) → n < length rs → SetBelow s n old rs → r ≡ switched (has s n) (relay_at rs n) → SetBelow s (n + 1) old (slice_set rs n r)
set_more s n old rs r lt so is = record {
  done = λ k below. ⊎_elim
      (λ e. ap (relay_at (slice_set rs n r)) e ∙ get_or-set_same rs n r unused lt ∙ is ∙ ap (switched (has s n)) (so.rest n (omega arith)) ∙ ap (λ j. switched (has s j) (relay_at old j)) (sym e))
      (λ ne. get_or-set_other rs n k r unused ne ∙ so.done k (omega arith)) (cases_eq k n);
  rest = λ k le. let ne : k ≡ n → ⊥ = λ e. omega arith in get_or-set_other rs n k r unused ne ∙ so.rest k (omega arith);
}

-- 64 relays that are set by s are the set s
pub set_all : (s : ℕ) (old rs : List Relay) → length rs ≡ 64 → s < 2 ^ 64 → ((k : ℕ) → k < 64 → relay_at rs k ≡ switched (has s k) (relay_at old k)) → relays_on rs ≡ s
set_all s old rs long fits done =
    same_bits 64 (relays_on rs) s (relays_on_fits rs long) fits (λ k lt. sym (has_relays_on rs k) ∙ ap (λ (r : Relay). r.on) (done k lt))

-- 64 relays of which the first n are set by s: what the loop over a board's relays keeps
pub record Switching (s n : ℕ) (old rs : List Relay) : Type 0 where
  pub long : length rs ≡ 64
  pub below : SetBelow s n old rs

-- once the loop has been through all of them, they are the set s
pub switching_all : (s n : ℕ) (old rs : List Relay) → s < 2 ^ 64 → 64 ≤ n → Switching s n old rs → relays_on rs ≡ s
switching_all s n old rs fits all so = set_all s old rs so.long fits (λ k lt. so.below.done k (omega arith))
