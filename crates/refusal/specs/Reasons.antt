-- A refusal in words, in ASCII.
--   reason_of   why something is refused
use Rattle.std.specs.Prelude.{ℕ, List, codes}
use Rattle.refusal.specs.declared.Refusal.{Refusal}
use Rattle.refusal.specs.declared.Refusal.TheVariants.{TooManyPlaces, TooManyTransitions, MarkOutside, NoSuchTransition, ArcOutside, TakenAndGiven, EmptySet, PlaceOutside, TwoMarks, NotEvenOrNotThin, NoBarePlace, Bare, Unlit, Occupied, Shut, NoSuchStrand, Foreign, OddOrShort, WrongCheck, UnknownKind, WrongLength, OutOfOrder, Spent, MemoryTooShort}

abbrev pub reason_of : Refusal → List ℕ
reason_of TooManyPlaces = codes "more than 64 places"
reason_of TooManyTransitions = codes "more than 64 transitions"
reason_of MarkOutside = codes "a mark outside the net"
reason_of NoSuchTransition = codes "no such transition"
reason_of ArcOutside = codes "an arc to a place outside the net"
reason_of TakenAndGiven = codes "a place both taken and given"
reason_of EmptySet = codes "the empty set"
reason_of PlaceOutside = codes "a place outside the net"
reason_of TwoMarks = codes "two marked places"
reason_of (NotEvenOrNotThin transition) = codes "not even or not thin at a transition"
reason_of NoBarePlace = codes "no bare place"
reason_of (Bare place) = codes "a bare place"
reason_of (Unlit place) = codes "an unlit place"
reason_of (Occupied place) = codes "an occupied place"
reason_of (Shut channel) = codes "shut by a channel"
reason_of NoSuchStrand = codes "no such strand"
reason_of Foreign = codes "a foreign character"
reason_of OddOrShort = codes "an odd count of digits or fewer than four"
reason_of WrongCheck = codes "a wrong check byte"
reason_of UnknownKind = codes "an unknown kind"
reason_of WrongLength = codes "a wrong payload length"
reason_of OutOfOrder = codes "out of order"
reason_of (Spent stage) = codes "memory spent at a stage"
reason_of MemoryTooShort = codes "memory too short"
