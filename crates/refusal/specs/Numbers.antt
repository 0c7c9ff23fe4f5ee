-- What users see of a refusal.
--   Shown       a number, and what goes with it
--   shown_of    both for each case: the one table of the refusals
--   number_of   the number alone
--   detail_of   what the case carries alone: a transition, a place, a channel or a stage, and 0 where it carries nothing
use Rattle.std.specs.Prelude.{ℕ}
use Rattle.refusal.specs.declared.Refusal.{Refusal}
use Rattle.refusal.specs.declared.Refusal.TheVariants.{TooManyPlaces, TooManyTransitions, MarkOutside, NoSuchTransition, ArcOutside, TakenAndGiven, EmptySet, PlaceOutside, TwoMarks, NotEvenOrNotThin, NoBarePlace, Bare, Unlit, Occupied, Shut, NoSuchStrand, Foreign, OddOrShort, WrongCheck, UnknownKind, WrongLength, OutOfOrder, Spent, MemoryTooShort}

pub record Shown : Type 0 where
  pub number : ℕ
  pub detail : ℕ

abbrev shows : ℕ → ℕ → Shown
shows n d = record { number = n; detail = d }

abbrev pub shown_of : Refusal → Shown
shown_of TooManyPlaces = shows 1 0
shown_of TooManyTransitions = shows 2 0
shown_of MarkOutside = shows 3 0
shown_of NoSuchTransition = shows 4 0
shown_of ArcOutside = shows 5 0
shown_of TakenAndGiven = shows 6 0
shown_of EmptySet = shows 7 0
shown_of PlaceOutside = shows 8 0
shown_of TwoMarks = shows 9 0
shown_of (NotEvenOrNotThin transition) = shows 10 transition
shown_of NoBarePlace = shows 11 0
shown_of (Bare place) = shows 12 place
shown_of (Unlit place) = shows 13 place
shown_of (Occupied place) = shows 14 place
shown_of (Shut channel) = shows 15 channel
shown_of NoSuchStrand = shows 16 0
shown_of Foreign = shows 17 0
shown_of OddOrShort = shows 18 0
shown_of WrongCheck = shows 19 0
shown_of UnknownKind = shows 20 0
shown_of WrongLength = shows 21 0
shown_of OutOfOrder = shows 22 0
shown_of (Spent stage) = shows 23 stage
shown_of MemoryTooShort = shows 24 0

abbrev pub number_of : Refusal → ℕ
number_of r = (shown_of r).number

abbrev pub detail_of : Refusal → ℕ
detail_of r = (shown_of r).detail
