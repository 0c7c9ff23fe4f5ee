-- A run with its board, and what a call does to the board.
--   State                    a run that goes or is halted, with its board
--   going_on, halted_on      the two kinds
--   state_of, certified_of   the state and the certified net of a run of the program
--   Moved                    what a call with its answer does to the board
--   Step, Chain              one call as the lines show it, and a list of calls with their answers
use Rattle.std.specs.Prelude.{◌≡◌, ℕ, Bool, true, false, cond, List, [], ◌∷◌, Option}
use Rattle.net.specs.Nets.{PetriNet}
use Rattle.net.specs.Sets.{has, exchange}
use Rattle.cover.specs.declared.certified.Certified.{Certified}
use Rattle.board.specs.Rules.{Laid}
use Rattle.weight.specs.Additions.{Addition}
use Rattle.run.specs.Firing.{fire_outcome}
use Rattle.run.specs.Calls.{answered, is_done, goes}
use Rattle.run.specs.declared.calls.Call.{Call}
use Rattle.run.specs.declared.calls.Call.TheVariants.{Fire, Signal, Halt, Resume, Home, Read, Station, Weigh}
use Rattle.run.specs.declared.calls.Answer.{Answer}
use Rattle.run.specs.declared.calls.Entry.{Entry}
use Rattle.run.specs.declared.runs.Run.{Run}
use Rattle.run.specs.declared.runs.Run.TheVariants.{Going, Halted}

pub record State (B : Type 0) : Type 0 where
  pub going : Bool
  pub board : B

abbrev pub going_on : {B : Type 0} → B → State B
going_on b = record { going = true; board = b }

abbrev pub halted_on : {B : Type 0} → B → State B
halted_on b = record { going = false; board = b }

abbrev pub state_of : {B : Type 0} → Run B → State B
state_of (Going g) = going_on g.board
state_of (Halted h) = halted_on h.board

abbrev pub certified_of : {B : Type 0} → Run B → Certified
certified_of (Going g) = g.certified
certified_of (Halted h) = h.certified

module _ {B : Type 0} (lit : B → ℕ) (closed : B → Option ℕ) (signalled : B → ℕ → ℕ → B → Type 0) where
  -- a fire that is done exchanges what is taken for what is given, a home that is done lays the marks, a signal goes by the board's own rule, and nothing else changes the board
  abbrev pub Moved : {W : Type 0} → PetriNet → Call → Answer W → B → B → Type 0
  Moved n (Fire t) a b b' = cond (is_done a) (Laid lit closed (exchange (lit b) (n.takes t) (n.gives t)) b b') (b' ≡ b)
  Moved n (Signal channel event) a b b' = signalled b channel event b'
  Moved n Home a b b' = cond (is_done a) (Laid lit closed n.marks b b') (b' ≡ b)
  Moved n Halt a b b' = b' ≡ b
  Moved n Resume a b b' = b' ≡ b
  Moved n (Read l) a b b' = b' ≡ b
  Moved n (Station k) a b b' = b' ≡ b
  Moved n Weigh a b b' = b' ≡ b

  module _ {W : Type 0} (add : Addition W) (n : PetriNet) (strands : List ℕ) (weights : List W) where
    pub record Step (call : Call) (a : Answer W) (s s' : State B) : Type 0 where
      pub by_lines : a ≡ answered add strands weights (has (lit s.board)) (fire_outcome n (lit s.board) (closed s.board)) s.going call
      pub moved : Moved n call a s.board s'.board
      pub goes_on : s'.going ≡ goes call s.going

    abbrev pub Chain : State B → List (Entry W) → State B → Type 0
    Chain s [] s' = s ≡ s'
    Chain s (e ∷ es) s' = (m : State B) × Step e.call e.answer s m × Chain m es s'
