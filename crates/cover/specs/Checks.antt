-- The check of a set of places, as a computation.
--   even_at            the transition takes as many places of the set as it gives
--   thin_at            the transition takes at most one place of the set, and gives at most one
--   even_and_thin_at   both
--   check_outcome      the first reason why the set is not a strand, or none
--   Checked            each set of the list passes the check
use Rattle.std.specs.Prelude.{◌≡◌, ℕ, ◌^◌, ◌<◌, Bool, true, not, ◌&&◌, List, length, is_ok, Ok, ◌==◌, nat_le, nat_lt, slice_index}
use Rattle.refusal.specs.declared.Refusal.TheVariants.{EmptySet, PlaceOutside, TwoMarks, NotEvenOrNotThin}
use Rattle.net.specs.Lowest.{lowest}
use Rattle.net.specs.Nets.{PetriNet}
use Rattle.refusal.specs.Outcomes.{Outcome, refuse_if, refuse_at}
use Rattle.net.specs.Sets.{size, intersection}

module _ (n : PetriNet) where
  abbrev pub even_at : ℕ → ℕ → Bool
  even_at s t = size (intersection (n.takes t) s) == size (intersection (n.gives t) s)

  abbrev pub thin_at : ℕ → ℕ → Bool
  thin_at s t = nat_le (size (intersection (n.takes t) s)) 1 && nat_le (size (intersection (n.gives t) s)) 1

  abbrev pub even_and_thin_at : ℕ → ℕ → Bool
  even_and_thin_at s t = even_at s t && thin_at s t

  -- an empty set, a place that the net has not, two marked places, a transition at which the set is not even or not thin: the lowest is told
  abbrev pub check_outcome : ℕ → Outcome
  check_outcome s =
      refuse_if (s == 0) EmptySet (
      refuse_if (nat_le (2 ^ n.places) s) PlaceOutside (
      refuse_if (nat_lt 1 (size (intersection n.marks s))) TwoMarks (
      refuse_at (lowest n.transitions (λ t. not (even_and_thin_at s t))) NotEvenOrNotThin (
      Ok tt))))

  abbrev pub Checked : List ℕ → Type 0
  Checked ss = (k : ℕ) → k < length ss → is_ok (check_outcome (slice_index ss k)) ≡ true
