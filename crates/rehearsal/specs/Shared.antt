-- The calls that every run has, going or halted.
--   lacking   the state of a run that lacks the call, as whether it goes; going, for a call that both states have
--   asked     the answer of a run to a call that both have, and Absent for any other
use Rattle.std.specs.Prelude.{ℕ, Bool, true, false, List, Ok}
use Rattle.weight.specs.Additions.{Addition}
use Rattle.run.specs.Calls.{answered}
use Rattle.run.specs.declared.calls.Call.{Call}
use Rattle.run.specs.declared.calls.Call.TheVariants.{Fire, Signal, Halt, Resume, Home, Read, Station, Weigh}
use Rattle.run.specs.declared.calls.Answer.{Answer}

abbrev pub lacking : Call → Bool
lacking (Fire t) = false
lacking Halt = false
lacking Resume = true
lacking Home = true
lacking (Signal channel event) = true
lacking (Read l) = true
lacking (Station k) = true
lacking Weigh = true

-- asked of a run that lacks the call, or of either where both have it; no fire is looked at
abbrev pub asked : {W : Type 0} → Addition W → List ℕ → List W → (ℕ → Bool) → Call → Answer W
asked a strands weights test call = answered a strands weights test (λ t. Ok tt) (lacking call) call
