-- Strands and covers. A strand is a set of places that holds at most one token between them, whatever fires; a cover is a list of strands with every place in it.
--   Occurs      p is in one of the sets of the list
--   EvenAt      the transition takes as many places of the set as it gives
--   EvenBelow   the set is even at each transition below k
--   ThinAt      the transition takes at most one place of the set, and gives at most one
--   Thin        at most one place of the set is marked, and the set is thin at every transition
--   Good        a non-empty thin set of places that is even at the transitions below k
--   Strand      a non-empty thin set of places that is even at every transition
--   Cover       a list of strands in which every place occurs
--   HasCover    there is a cover
use Rattle.std.specs.Prelude.{◌≡◌, ℕ, ◌^◌, ◌<◌, ◌≤◌, List, length, slice_index}
use Rattle.std.specs.List.{AllByRecursion}
use Rattle.net.specs.Sets.{In, size, intersection}
use Rattle.net.specs.Nets.{PetriNet}

abbrev pub Occurs : ℕ → List ℕ → Type 0
Occurs p ss = (k : ℕ) × (k < length ss) × In p (slice_index ss k)

module _ (n : PetriNet) where
  abbrev pub EvenAt : ℕ → ℕ → Type 0
  EvenAt s t = size (intersection (n.takes t) s) ≡ size (intersection (n.gives t) s)

  abbrev pub EvenBelow : ℕ → ℕ → Type 0
  EvenBelow k s = (t : ℕ) → t < k → EvenAt s t

  pub record ThinAt (s t : ℕ) : Type 0 where
    pub takes_one : size (intersection (n.takes t) s) ≤ 1
    pub gives_one : size (intersection (n.gives t) s) ≤ 1

  pub record Thin (s : ℕ) : Type 0 where
    pub one_mark : size (intersection n.marks s) ≤ 1
    pub at_each : (t : ℕ) → t < n.transitions → ThinAt s t

  pub record Good (k s : ℕ) : Type 0 where
    pub some : 0 < s
    pub within : s < 2 ^ n.places
    pub thin : Thin s
    pub even : EvenBelow k s

  abbrev pub Strand : ℕ → Type 0
  Strand s = Good n.transitions s

  pub record Cover (ss : List ℕ) : Type 0 where
    pub strands : AllByRecursion Strand ss
    pub all_places : (p : ℕ) → p < n.places → Occurs p ss

  abbrev pub HasCover : Type 0
  HasCover = (ss : List ℕ) × Cover ss
