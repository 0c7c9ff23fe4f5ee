-- What a rehearsal gives back.
--   LinesOf, WeightsOf   the two statements on the run, where there is one; where the cover is refused, the board and the log are as they were
use Rattle.std.specs.Prelude.{◌≡◌, ℕ, List, Ok, Err, Option, Result}
use Rattle.refusal.specs.Outcomes.{Outcome}
use Rattle.net.specs.Nets.{PetriNet}
use Rattle.weight.specs.Additions.{Addition}
use Rattle.run.specs.Follows.{LinesFollowTheNet, WeightsFollowTheFires}
use Rattle.run.specs.Log.{calls}
use Rattle.run.specs.States.{state_of}
use Rattle.run.specs.declared.calls.Entry.{Entry}
use Rattle.run.specs.declared.runs.Run.{Run}
use Rattle.rehearsal.specs.declared.rehearsed.Refused.{Refused}

module _ {B W : Type 0} (lit : B → ℕ) (closed : B → Option ℕ) (signalled : B → ℕ → ℕ → B → Type 0) (add : Addition W) (n : PetriNet) (strands : List ℕ) (weights : List W) (board : B) where
  abbrev pub LinesOf : List (Entry W) → Result (Run B) (Refused B) → List (Entry W) → Type 0
  LinesOf before (Ok run) log = (calls log ≡ calls before) × LinesFollowTheNet lit closed signalled add n strands weights board log (state_of run)
  LinesOf before (Err refused) log = (refused.board ≡ board) × (log ≡ before)

  abbrev pub WeightsOf : (W → W) → Result (Run B) (Refused B) → List (Entry W) → Type 0
  WeightsOf minus (Ok run) log = WeightsFollowTheFires add minus n log (lit (state_of run).board)
  WeightsOf minus (Err refused) log = Unit {0}

-- the cover is refused just as proposing its sets and certifying are
abbrev pub AnswersBy : {B : Type 0} → Outcome → Result (Run B) (Refused B) → Type 0
AnswersBy outcome (Ok run) = outcome ≡ Ok tt
AnswersBy outcome (Err refused) = outcome ≡ Err refused.why
