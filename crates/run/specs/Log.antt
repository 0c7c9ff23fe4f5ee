-- What a log of calls and answers says by itself.
--   calls         its calls
--   accepted      the fires that were accepted since the start or the last home, the latest first
--   NoneOccupied  no fire was refused for a place that it gives and that is lit
use Rattle.std.specs.Prelude.{ℕ, cond, List, [], ◌∷◌, map, ◌≢◌}
use Rattle.std.specs.List.{AllByRecursion}
use Rattle.refusal.specs.declared.Refusal.TheVariants.{Occupied}
use Rattle.run.specs.Calls.{is_done}
use Rattle.run.specs.declared.calls.Call.{Call}
use Rattle.run.specs.declared.calls.Call.TheVariants.{Fire, Signal, Halt, Resume, Home, Read, Station, Weigh}
use Rattle.run.specs.declared.calls.Answer.{Answer}
use Rattle.run.specs.declared.calls.Answer.TheVariants.{Refused}
use Rattle.run.specs.declared.calls.Entry.{Entry}

abbrev pub calls : {W : Type 0} → List (Entry W) → List Call
calls log = map (λ e. e.call) log

-- a fire that is done joins them, and a home that is done clears them
abbrev pub accepted_by : {W : Type 0} → List ℕ → Call → Answer W → List ℕ
accepted_by ts (Fire t) a = cond (is_done a) (t ∷ ts) ts
accepted_by ts Home a = cond (is_done a) [] ts
accepted_by ts (Signal channel event) a = ts
accepted_by ts Halt a = ts
accepted_by ts Resume a = ts
accepted_by ts (Read l) a = ts
accepted_by ts (Station k) a = ts
accepted_by ts Weigh a = ts

abbrev pub accepted : {W : Type 0} → List ℕ → List (Entry W) → List ℕ
accepted ts [] = ts
accepted ts (e ∷ es) = accepted (accepted_by ts e.call e.answer) es

abbrev pub NoneOccupied : {W : Type 0} → List (Entry W) → Type 0
NoneOccupied log = AllByRecursion (λ e. (p : ℕ) → e.answer ≢ Refused (Occupied p)) log
