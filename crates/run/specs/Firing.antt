-- What a run answers, by its net, its lit lines and the shut channel of its board.
--   agrees           whether a line is as it is wanted: lit, or dark
--   fire_outcome     what firing a transition comes to: done, or the first reason why not
--   station_outcome  where the token of a strand stands: the lowest of its places that passes a test, if there is such a strand
--   Fired            what firing a transition does to the board
use Rattle.std.specs.Prelude.{◌≡◌, ℕ, Bool, true, false, not, Some, None, Ok, Err, Option, Result, nat_le}
use Rattle.refusal.specs.declared.Refusal.{Refusal}
use Rattle.refusal.specs.declared.Refusal.TheVariants.{NoSuchTransition, Unlit, Occupied, Shut, NoSuchStrand}
use Rattle.refusal.specs.Outcomes.{Outcome, refuse_if, refuse_at}
use Rattle.net.specs.Lowest.{lowest_of}
use Rattle.net.specs.Nets.{PetriNet}
use Rattle.net.specs.Sets.{has, exchange}
use Rattle.board.specs.Rules.{Laid}

abbrev pub agrees : Bool → Bool → Bool
agrees true lit = lit
agrees false lit = not lit

-- no such transition, a place taken that is unlit, a place given that is lit, a shut channel: places and channel are told, the lowest place
abbrev pub fire_outcome : PetriNet → ℕ → Option ℕ → ℕ → Outcome
fire_outcome n lit shut t =
    refuse_if (nat_le n.transitions t) NoSuchTransition (
    refuse_at (lowest_of (n.takes t) (λ p. agrees false (has lit p))) Unlit (
    refuse_at (lowest_of (n.gives t) (λ p. agrees true (has lit p))) Occupied (
    refuse_at shut Shut (
    Ok tt))))

abbrev pub station_outcome : (ℕ → Bool) → Option ℕ → Result (Option ℕ) Refusal
station_outcome test (Some strand) = Ok (lowest_of strand test)
station_outcome test None = Err NoSuchStrand

module _ {B : Type 0} (lit : B → ℕ) (closed : B → Option ℕ) where
  -- done: what it takes goes out, then what it gives goes on; refused: the board is as it was
  abbrev pub Fired : PetriNet → ℕ → B → Outcome → B → Type 0
  Fired n t before (Ok _) after = Laid lit closed (exchange (lit before) (n.takes t) (n.gives t)) before after
  Fired n t before (Err _) after = after ≡ before
