-- Two fusions that make a net smaller: of two places into one, and of two transitions into one. The net has a cover after a fusion exactly when it had one before.
--   touches             the places that a transition takes or gives
--   contains            whether the first set has every member of the second
--   alone               whether no other number below k than i passes the test
--   only_if             the number, if it is there and passes the test
--   sole                the number below k that passes the test, if exactly one does
--   member              the lowest member of a set, and 0 for the empty set
--   swapped             the set with the members of `noted` in place of p, where p is in it
--   replaced            the net with the places of `noted` in place of p in every set, and without the arcs of transition x
--   exchanges_one       whether t takes exactly one place and gives exactly one, which are not both marked
--   place_fusible       whether the place that t takes can be fused with the place that t gives
--   place_fused         the net after that
--   arcs_on             the set that a transition takes, or the set that it gives
--   sole_on             the transition that has place m on that side, if exactly one does
--   giver, taker        the transition that gives, or takes, place m, if exactly one does
--   joined              whether there are both a giver u and a taker v of place m, and v can be fused into u
--   transition_fusible  whether the transition that gives place m can be fused with the one that takes it
--   transition_fused    the net after that, with u the giver and v the taker of m
use Rattle.std.specs.Prelude.{ℕ, ◌^◌, Bool, false, cond, not, ◌&&◌, is_some, Some, None, Option, ◌==◌}
use Rattle.std.specs.Option.{unwrap_or}
use Rattle.net.specs.Lowest.{lowest, lowest_in}
use Rattle.net.specs.Nets.{PetriNet}
use Rattle.net.specs.Sets.{has, size, intersection, union, difference}
use Rattle.fold.specs.declared.side.Side.{Side}
use Rattle.fold.specs.declared.side.Side.TheVariants.{Taken, Given}

abbrev pub touches : PetriNet → ℕ → ℕ
touches n t = union (n.takes t) (n.gives t)

abbrev pub contains : ℕ → ℕ → Bool
contains s r = intersection s r == r

abbrev pub alone : ℕ → (ℕ → Bool) → ℕ → Bool
alone k test i = not (is_some (lowest k (λ j. not (j == i) && test j)))

abbrev pub only_if : (ℕ → Bool) → Option ℕ → Option ℕ
only_if test (Some p) = cond (test p) (Some p) None
only_if test None = None

abbrev pub sole : ℕ → (ℕ → Bool) → Option ℕ
sole k test = only_if (alone k test) (lowest k test)

abbrev pub member : ℕ → ℕ
member s = unwrap_or (lowest_in s) 0

abbrev pub swapped : ℕ → ℕ → ℕ → ℕ
swapped p noted x = cond (has x p) (union (difference x (2 ^ p)) noted) x

abbrev pub replaced : PetriNet → ℕ → ℕ → ℕ → PetriNet
replaced n x p noted = record {
  places = n.places;
  transitions = n.transitions;
  marks = swapped p noted n.marks;
  takes = λ t. cond (t == x) 0 (swapped p noted (n.takes t));
  gives = λ t. cond (t == x) 0 (swapped p noted (n.gives t));
}

abbrev pub exchanges_one : PetriNet → ℕ → Bool
exchanges_one n t = size (n.takes t) == 1 && (size (n.gives t) == 1 && not (contains n.marks (touches n t)))

-- t exchanges one place for another, and no other transition touches both
abbrev pub place_fusible : PetriNet → ℕ → Bool
place_fusible n t = exchanges_one n t && alone n.transitions (λ u. contains (touches n u) (touches n t)) t

-- all arcs and any mark of the place that t gives move to the place that t takes, and t loses its arcs
abbrev pub place_fused : PetriNet → ℕ → PetriNet
place_fused n t = replaced n t (member (n.gives t)) (n.takes t)

abbrev pub arcs_on : PetriNet → Side → ℕ → ℕ
arcs_on n Taken t = n.takes t
arcs_on n Given t = n.gives t

abbrev pub sole_on : PetriNet → Side → ℕ → Option ℕ
sole_on n side m = sole n.transitions (λ t. has (arcs_on n side t) m)

abbrev pub giver : PetriNet → ℕ → Option ℕ
giver n m = sole_on n Given m

abbrev pub taker : PetriNet → ℕ → Option ℕ
taker n m = sole_on n Taken m

-- the taker v takes nothing but m, gives at least one place, and gives none that the giver u touches
abbrev pub joined : PetriNet → ℕ → Option ℕ → Option ℕ → Bool
joined n m (Some u) (Some v) = n.takes v == 2 ^ m && (not (n.gives v == 0) && intersection (n.gives v) (touches n u) == 0)
joined n m (Some u) None = false
joined n m None v = false

-- m is unmarked, and exactly one transition gives it and exactly one takes it, which are joined
abbrev pub transition_fusible : PetriNet → ℕ → Bool
transition_fusible n m = not (has n.marks m) && joined n m (giver n m) (taker n m)

-- u gives what v gave instead of m, and v loses its arcs
abbrev pub transition_fused : PetriNet → ℕ → ℕ → ℕ → PetriNet
transition_fused n m u v = record {
  places = n.places;
  transitions = n.transitions;
  marks = n.marks;
  takes = λ t. cond (t == v) 0 (n.takes t);
  gives = λ t. cond (t == v) 0 (cond (t == u) (union (difference (n.gives u) (2 ^ m)) (n.gives v)) (n.gives t));
}
