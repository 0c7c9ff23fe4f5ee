-- The counting rule: places hold tokens, and transitions move them. Counts are natural numbers, with no upper limit.
--   Marking       how many tokens each place holds
--   initial       the marking at the start: one token on each marked place
--   Enabled       the transition may fire: each place that it takes holds a token
--   fired         the marking after it: a token less on each place that it takes, one more on each that it gives
--   Firable       the list is a firing sequence: each transition is enabled when its turn comes
--   after         the marking after the transitions of the list have fired one by one
--   Safe          whatever has fired, no place holds more than one token (1-safe)
--   ContactFree   whatever has fired, the places that an enabled transition gives hold no token
use Rattle.std.specs.Prelude.{◌≡◌, ℕ, ◌+◌, ◌-◌, ◌<◌, ◌≤◌, List, [], ◌∷◌}
use Rattle.net.specs.Sets.{In, one_in}
use Rattle.net.specs.Nets.{PetriNet}

abbrev pub Marking : Type 0
Marking = ℕ → ℕ

module _ (n : PetriNet) where
  abbrev pub initial : Marking
  initial p = one_in n.marks p

  abbrev pub Enabled : Marking → ℕ → Type 0
  Enabled m t = (t < n.transitions) × ((p : ℕ) → In p (n.takes t) → 1 ≤ m p)

  abbrev pub fired : ℕ → Marking → Marking
  fired t m p = m p - one_in (n.takes t) p + one_in (n.gives t) p

  abbrev pub Firable : Marking → List ℕ → Type 0
  Firable m [] = Unit {0}
  Firable m (t ∷ ts) = Enabled m t × Firable (fired t m) ts

  abbrev pub after : Marking → List ℕ → Marking
  after m [] = m
  after m (t ∷ ts) = after (fired t m) ts

  abbrev pub Safe : Type 0
  Safe = (ts : List ℕ) → Firable initial ts → (p : ℕ) → p < n.places → after initial ts p ≤ 1

  abbrev pub ContactFree : Type 0
  ContactFree = (ts : List ℕ) → Firable initial ts → (t : ℕ) → Enabled (after initial ts) t → (p : ℕ) → In p (n.gives t) → after initial ts p ≡ 0
