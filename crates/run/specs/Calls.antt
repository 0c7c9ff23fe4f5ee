-- What each call on a run is answered, once it is known which places hold a token and what a fire comes to.
--   told          an outcome as an answer
--   told_station  a station as an answer
--   answered      the answer to any call
--   is_done       whether an answer is Done
--   goes          whether the run goes after a call
use Rattle.std.specs.Prelude.{ℕ, Bool, true, false, cond, List, Ok, Err, Option, Result}
use Rattle.std.specs.List.{slice_get}
use Rattle.refusal.specs.declared.Refusal.{Refusal}
use Rattle.refusal.specs.Outcomes.{Outcome}
use Rattle.weight.specs.Additions.{Addition}
use Rattle.weight.specs.Weights.{weight_where}
use Rattle.run.specs.Firing.{station_outcome}
use Rattle.run.specs.declared.calls.Call.{Call}
use Rattle.run.specs.declared.calls.Call.TheVariants.{Fire, Signal, Halt, Resume, Home, Read, Station, Weigh}
use Rattle.run.specs.declared.calls.Answer.{Answer}
use Rattle.run.specs.declared.calls.Answer.TheVariants.{Done, Refused, Lit, At, Weight, Absent}

abbrev pub told : {W : Type 0} → Outcome → Answer W
told (Ok _) = Done
told (Err why) = Refused why

abbrev pub told_station : {W : Type 0} → Result (Option ℕ) Refusal → Answer W
told_station (Ok at) = At at
told_station (Err why) = Refused why

-- `test` says which places hold a token, `fire` what firing a transition comes to, `going` whether the run goes
abbrev pub answered : {W : Type 0} → Addition W → List ℕ → List W → (ℕ → Bool) → (ℕ → Outcome) → Bool → Call → Answer W
answered a strands weights test fire going (Fire t) = cond going (told (fire t)) Absent
answered a strands weights test fire going (Signal channel event) = Done
answered a strands weights test fire going Halt = cond going Done Absent
answered a strands weights test fire going Resume = cond going Absent Done
answered a strands weights test fire going Home = cond going Absent Done
answered a strands weights test fire going (Read l) = Lit (test l)
answered a strands weights test fire going (Station k) = told_station (station_outcome test (slice_get strands k))
answered a strands weights test fire going Weigh = Weight (weight_where a test weights)

abbrev pub is_done : {W : Type 0} → Answer W → Bool
is_done Done = true
is_done (Refused why) = false
is_done (Lit b) = false
is_done (At p) = false
is_done (Weight w) = false
is_done Absent = false

abbrev pub goes : Call → Bool → Bool
goes Halt going = false
goes Resume going = true
goes (Fire t) going = going
goes (Signal channel event) going = going
goes Home going = going
goes (Read l) going = going
goes (Station k) going = going
goes Weigh going = going
