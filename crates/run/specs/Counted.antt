-- The counted net: what a net does by its counts alone. It never looks at a line.
--   Counting        its state: the marking, the shut channel that it was told last, and whether it goes
--   started         its state at the start
--   counted_fire    what firing a transition comes to
--   holds_one       whether a place counts 1
--   counted_answer  its answer to a call
--   counted_after   its state after a call
use Rattle.std.specs.Prelude.{ℕ, Bool, true, false, cond, ◌&&◌, List, is_ok, Ok, Option, ◌==◌, nat_eq, nat_le}
use Rattle.refusal.specs.declared.Refusal.TheVariants.{NoSuchTransition, Unlit, Shut}
use Rattle.refusal.specs.Outcomes.{Outcome, refuse_if, refuse_at}
use Rattle.net.specs.Counting.{Marking, initial, fired}
use Rattle.net.specs.Lowest.{lowest_of}
use Rattle.net.specs.Nets.{PetriNet}
use Rattle.weight.specs.Additions.{Addition}
use Rattle.run.specs.Calls.{answered}
use Rattle.run.specs.declared.calls.Call.{Call}
use Rattle.run.specs.declared.calls.Call.TheVariants.{Fire, Signal, Halt, Resume, Home, Read, Station, Weigh}
use Rattle.run.specs.declared.calls.Answer.{Answer}

-- counts have no upper limit
pub record Counting : Type 0 where
  pub marking : Marking
  pub shut : Option ℕ
  pub going : Bool

abbrev pub started : PetriNet → Option ℕ → Counting
started n channel = record { marking = initial n; shut = channel; going = true }

-- no such transition, a place taken that counts 0, a shut channel: the lowest place and the channel are told
abbrev pub counted_fire : PetriNet → Marking → Option ℕ → ℕ → Outcome
counted_fire n m shut t =
    refuse_if (nat_le n.transitions t) NoSuchTransition (
    refuse_at (lowest_of (n.takes t) (λ p. nat_eq (m p) 0)) Unlit (
    refuse_at shut Shut (
    Ok tt)))

abbrev pub holds_one : Marking → ℕ → Bool
holds_one m p = m p == 1

-- as if exactly the lines of the places that count 1 were lit
abbrev pub counted_answer : {W : Type 0} → Addition W → PetriNet → List ℕ → List W → Counting → Call → Answer W
counted_answer add n strands weights s call = answered add strands weights (holds_one s.marking) (counted_fire n s.marking s.shut) s.going call

-- the channel is the one that is shut after a signal
abbrev pub counted_after : PetriNet → Counting → Call → Option ℕ → Counting
counted_after n s (Fire t) channel =
    cond (s.going && is_ok (counted_fire n s.marking s.shut t))
    (record { marking = fired n t s.marking; shut = s.shut; going = s.going })
    s
counted_after n s (Signal c e) channel = record { marking = s.marking; shut = channel; going = s.going }
counted_after n s Halt channel = record { marking = s.marking; shut = s.shut; going = false }
counted_after n s Resume channel = record { marking = s.marking; shut = s.shut; going = true }
counted_after n s Home channel = cond s.going s (record { marking = initial n; shut = s.shut; going = s.going })
counted_after n s (Read l) channel = s
counted_after n s (Station k) channel = s
counted_after n s Weigh channel = s
