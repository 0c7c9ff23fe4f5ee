-- How a job stands.
--   Running       a run: whether it goes, its net and strands, the lit set, and the channel and the state of its gate
--   Standing      no net; a net as drawn; a net on a sheet with the strands accepted so far; a run
--   standing_of   how a job of the code stands
--   net_of        the net of a job, with no places where there is none
--   strands_of    its strands
--   run_of        its run
--   lit_of        its lit set, empty before a run is started
use Rattle.std.specs.Prelude.{ℕ, Bool, true, false, List, []}
use Rattle.board.specs.declared.gate.Guard.{Guard}
use Rattle.board.specs.declared.gate.Guard.TheVariants.{Ready}
use Rattle.cover.specs.Certificates.{certified_net, certified_strands}
use Rattle.cover.specs.Sheets.{sheet_net, sheet_strands}
use Rattle.cover.specs.declared.certified.Certified.{Certified}
use Rattle.net.specs.Drawings.{without_arcs}
use Rattle.net.specs.Nets.{PetriNet, drawn}
use Rattle.job.specs.Boards.{Panel}
use Rattle.job.specs.declared.state.State.{State}
use Rattle.job.specs.declared.state.State.TheVariants.{NoNet, Drawn, OnSheet, Going, Halted}

pub record Running : Type 0 where
  pub going : Bool
  pub net : PetriNet
  pub strands : List ℕ
  pub lit : ℕ
  pub channel : ℕ
  pub guard : Guard

pub data Standing : Type 0 where
  no_net : Standing
  drawn_net : PetriNet → Standing
  on_sheet : PetriNet → List ℕ → Standing
  running : Running → Standing

abbrev pub run_on : Bool → Certified → Panel → Running
run_on going c b = record { going = going; net = certified_net c; strands = certified_strands c; lit = b.below.set; channel = b.channel; guard = b.guard }

abbrev pub standing_of : State → Standing
standing_of NoNet = no_net
standing_of (Drawn net) = drawn_net (drawn net)
standing_of (OnSheet sheet) = on_sheet (sheet_net sheet) (sheet_strands sheet)
standing_of (Going g) = running (run_on true g.certified g.board)
standing_of (Halted h) = running (run_on false h.certified h.board)

abbrev pub net_of : Standing → PetriNet
net_of no_net = without_arcs 0 0 0
net_of (drawn_net n) = n
net_of (on_sheet n strands) = n
net_of (running r) = r.net

abbrev pub strands_of : Standing → List ℕ
strands_of no_net = []
strands_of (drawn_net n) = []
strands_of (on_sheet n strands) = strands
strands_of (running r) = r.strands

abbrev pub started : PetriNet → List ℕ → Running
started n strands = record { going = true; net = n; strands = strands; lit = n.marks; channel = 0; guard = Ready }

abbrev pub run_of : Standing → Running
run_of no_net = started (without_arcs 0 0 0) []
run_of (drawn_net n) = started n []
run_of (on_sheet n strands) = started n strands
run_of (running r) = r

abbrev pub lit_of : Standing → ℕ
lit_of no_net = 0
lit_of (drawn_net n) = 0
lit_of (on_sheet n strands) = 0
lit_of (running r) = r.lit
