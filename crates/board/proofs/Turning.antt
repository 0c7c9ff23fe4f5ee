-- A board of which a set of lines is turned over.
use Rattle.std.proofs.Common.{◌≡◌, ℕ, ◌/◌, ◌%◌, ◌^◌, ◌<◌, Bool, true, false, cond, not, ◌&&◌, ◌||◌, T, eqb, Ok, Err, Option, Result, sym, refl, ap, ◌∙◌, subst, ap₂}
use mathlib.Core.Bool.{beq}
use native.Mathlib.Bridge.{le_prop}
use lib.Bits.{bit_xor, xor_assoc, xor_self, xor_zero_r, xor_shr, xor_mod}
use Rattle.net.specs.Sets.{has, union, difference, exchange}
use Rattle.net.proofs.Bits.{by_digit, digit_below, has_intersection, has_union, has_difference}
use Rattle.net.proofs.Members.{same_members}
use Rattle.board.specs.Rules.{Laid, Exchanged}
use Rattle.board.specs.Turns.{turn, light_below, turned_lit, turned_shut}
use Rattle.board.specs.declared.shut.Shut.{Shut}
use Rattle.board.specs.declared.turned.Turned.{Turned}

abbrev differs : Bool → Bool → Bool
differs x y = cond x (not y) y

has_turn : (a b p : ℕ) → has (turn a b) p ≡ differs (has a p) (has b p)
has_turn a b p =
    ap (λ k. eqb (k % 2) 1) (xor_shr a b p) ∙ ap (λ k. eqb k 1) (xor_mod (a / 2 ^ p) (b / 2 ^ p) 1)
    ∙ by_digit (λ u. eqb (bit_xor u (b / 2 ^ p % 2)) 1 ≡ differs (eqb u 1) (has b p)) refl
    (by_digit (λ v. eqb (bit_xor 1 v) 1 ≡ not (eqb v 1)) refl refl _ (digit_below (b / 2 ^ p))) _ (digit_below (a / 2 ^ p))

-- sets of which the test says the same are equal
same_has : (a b : ℕ) → ((p : ℕ) → has a p ≡ has b p) → a ≡ b
same_has a b same = same_members a b (λ p i. subst T (same p) i) (λ p i. subst T (sym (same p)) i)

-- ---- a line

unequal : (x y : Bool) → not (beq x y) ≡ differs x y
unequal true true = refl
unequal true false = refl
unequal false true = refl
unequal false false = refl

-- a line is lit where it is lit below and not turned, or turned and not lit below
pub turned_line : (below turned : Bool) (lit set line : ℕ) → below ≡ has lit line → turned ≡ has set line → not (beq below turned) ≡ has (turn lit set) line
turned_line below turned lit set line eb et = unequal below turned ∙ ap₂ differs eb et ∙ sym (has_turn lit set line)

-- ---- a set that is laid

pub turned_twice : (s t : ℕ) → turn (turn s t) t ≡ s
turned_twice s t = xor_assoc s t t ∙ ap (turn s) (xor_self t) ∙ xor_zero_r s

-- ---- an exchange

-- one line: b whether it is lit below, s whether it is turned, d whether it goes out, l whether it goes on
line_exchange : (b s d l : Bool) → differs ((b && not (d || l)) || ((d || l) && differs l s)) s ≡ ((differs b s && not d) || l)
line_exchange true true true true = refl
line_exchange true true true false = refl
line_exchange true true false true = refl
line_exchange true true false false = refl
line_exchange true false true true = refl
line_exchange true false true false = refl
line_exchange true false false true = refl
line_exchange true false false false = refl
line_exchange false true true true = refl
line_exchange false true true false = refl
line_exchange false true false true = refl
line_exchange false true false false = refl
line_exchange false false true true = refl
line_exchange false false true false = refl
line_exchange false false false true = refl
line_exchange false false false false = refl

has_exchange : (s d l p : ℕ) → has (exchange s d l) p ≡ ((has s p && not (has d p)) || has l p)
has_exchange s d l p = has_union (difference s d) l p ∙ ap (λ x. x || has l p) (has_difference s d p)

-- all lines: the exchange below, turned over, is the exchange above
pub exchange_turned : (b s d l : ℕ) → turn (exchange b (union d l) (light_below d l s)) s ≡ exchange (turn b s) d l
exchange_turned b s d l =
    same_has (turn (exchange b (union d l) (light_below d l s)) s) (exchange (turn b s) d l)
    (λ p. has_turn (exchange b (union d l) (light_below d l s)) s p
    ∙ ap (λ x. differs x (has s p)) (has_exchange b (union d l) (light_below d l s) p ∙ ap₂ (λ x y. (has b p && not x) || y) (has_union d l p) (has_intersection (union d l) (turn l s) p ∙ ap₂ ◌&&◌ (has_union d l p) (has_turn l s p)))
    ∙ line_exchange (has b p) (has s p) (has d p) (has l p)
    ∙ sym (has_exchange (turn b s) d l p ∙ ap (λ x. (x && not (has d p)) || has l p) (has_turn b s p)))

module _ {B : Type 0} where
  abbrev of : (s : ℕ) → B → s < 2 ^ 64 → Turned B
  of s b f = record { set = s; below = b; fits = f }

  -- boards with the same lines turned over the same board are the same
  same_turned : (x y : Turned B) → x.set ≡ y.set → x.below ≡ y.below → x ≡ y
  same_turned x y e b = subst (λ s. (f : s < 2 ^ 64) → x ≡ of s y.below f) e (λ f i. of x.set (b i) (le_prop x.fits f i)) y.fits

  module _ (lit : B → ℕ) (closed : B → Option ℕ) (before after : Turned B) (kept : after.set ≡ before.set) where
    pub turned_laid : (set : ℕ) → Laid lit closed (turn set before.set) before.below after.below → Laid (turned_lit lit) (turned_shut closed) set before after
    turned_laid set laid = record { lines = ap₂ turn laid.lines kept ∙ turned_twice set before.set; channel = laid.channel }

    pub turned_exchanged : (d l : ℕ) (r : Result (Unit {0}) Shut)
        → Exchanged lit closed (union d l) (light_below d l before.set) before.below r after.below
        → Exchanged (turned_lit lit) (turned_shut closed) d l before r after
    turned_exchanged d l (Ok u) (none, laid) = (
      none,
      record {
        lines = ap₂ turn laid.lines kept ∙ exchange_turned (lit before.below) before.set d l;
        channel = laid.channel;
      },
    )
    turned_exchanged d l (Err shut) (closes, same) = (closes, same_turned after before kept same)
