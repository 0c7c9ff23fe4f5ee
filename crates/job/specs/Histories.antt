-- Where the run of a job comes from.
--   Ran          a new board, on which the marks were laid, and a list of calls from there to where the run is
--   HasRan       of a job: its run, if it has one, came so
use Rattle.std.specs.Prelude.{ℕ, ◌+◌, List, []}
use Rattle.board.specs.Rules.{Laid}
use Rattle.cover.specs.Certificates.{certified_net, certified_strands}
use Rattle.cover.specs.declared.certified.Certified.{Certified}
use Rattle.run.specs.States.{State as RunState, going_on, halted_on, Chain}
use Rattle.run.specs.declared.calls.Entry.{Entry}
use Rattle.weight.specs.Additions.{Addition}
use Rattle.job.specs.Boards.{Panel, lit, closed, signalled, IsNew}
use Rattle.job.specs.declared.state.State.{State}
use Rattle.job.specs.declared.state.State.TheVariants.{NoNet, Drawn, OnSheet, Going, Halted}

-- a job weighs nothing
abbrev pub unweighed : Addition ℕ
unweighed = record { neutral = 0; plus = ◌+◌ }

pub record Ran (c : Certified) (s : RunState Panel) : Type 0 where
  pub passed : Panel
  pub new : IsNew passed
  pub first : Panel
  pub starts : Laid lit closed (certified_net c).marks passed first
  pub log : List (Entry ℕ)
  pub chain : Chain lit closed signalled unweighed (certified_net c) (certified_strands c) [] (going_on first) log s

abbrev pub HasRan : State → Type 0
HasRan NoNet = Unit {0}
HasRan (Drawn net) = Unit {0}
HasRan (OnSheet sheet) = Unit {0}
HasRan (Going g) = Ran g.certified (going_on g.board)
HasRan (Halted h) = Ran h.certified (halted_on h.board)
