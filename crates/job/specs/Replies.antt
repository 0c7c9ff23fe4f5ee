-- What a request brings about: the one definition of a job.
--   Reply          accepted with a detail, or refused; and how the job stands after
--   comes_to       the reply of a call that may be refused
--   with_lit       a run with another lit set
--   signalled_by   a run after a signal: on the gate's own channel its guard steps
--   obeyed         the reply to a request that is in order
--   reply_to       the reply to any request: one out of order is refused, and changes nothing
--   Gives          a state of the code and an answer are the reply
use Rattle.std.specs.Prelude.{◌≡◌, ℕ, ◌+◌, Bool, true, false, cond, [], ◌∷◌, ◌++◌, length, None, Ok, Err, Result, ◌==◌}
use Rattle.refusal.specs.Outcomes.{Outcome}
use Rattle.refusal.specs.declared.Refusal.{Refusal}
use Rattle.refusal.specs.declared.Refusal.TheVariants.{OutOfOrder}
use Rattle.board.specs.Guards.{stepped, shut_by}
use Rattle.cover.specs.Bare.{propose_outcome}
use Rattle.cover.specs.Certificates.{certify_outcome}
use Rattle.frame.specs.Replies.{asked_by}
use Rattle.frame.specs.declared.requests.Request.{Request}
use Rattle.frame.specs.declared.requests.Request.TheVariants.{Draw, Arcs, Propose, Search, Certify, Fire, Signal, Halt, Resume, Home, Answer}
use Rattle.net.specs.Drawings.{without_arcs, with_arcs, draw_outcome, arcs_outcome}
use Rattle.net.specs.Sets.{exchange}
use Rattle.run.specs.Firing.{fire_outcome}
use Rattle.job.specs.Orders.{in_order}
use Rattle.job.specs.Standings.{Running, Standing, no_net, drawn_net, on_sheet, running, standing_of, net_of, strands_of, started, run_of}
use Rattle.job.specs.declared.state.State.{State}

pub record Reply : Type 0 where
  pub said : Result ℕ Refusal
  pub after : Standing

-- accepted with a detail, or refused, with how the job stands either way
abbrev pub comes_to : Outcome → ℕ → Standing → Standing → Reply
comes_to (Ok _) detail accepted refused = record { said = Ok detail; after = accepted }
comes_to (Err why) detail accepted refused = record { said = Err why; after = refused }

abbrev pub with_lit : Running → ℕ → Running
with_lit r lit = record { going = r.going; net = r.net; strands = r.strands; lit = lit; channel = r.channel; guard = r.guard }

abbrev pub signalled_by : Running → ℕ → ℕ → Running
signalled_by r channel event = record {
  going = r.going;
  net = r.net;
  strands = r.strands;
  lit = r.lit;
  channel = r.channel;
  guard = cond (channel == r.channel) (stepped r.guard event) r.guard;
}

abbrev pub set_going : Running → Bool → Running
set_going r going = record { going = going; net = r.net; strands = r.strands; lit = r.lit; channel = r.channel; guard = r.guard }

-- the net goes onto a sheet by the first proposal, search or certificate, accepted or refused;
-- a refused certificate leaves no net
abbrev pub obeyed : Standing → Request → Reply
obeyed s (Draw places transitions marks) = comes_to (draw_outcome places transitions marks) 0 (drawn_net (without_arcs places transitions marks)) s
obeyed s (Arcs t taken given) = comes_to (arcs_outcome (net_of s) t taken given) 0 (drawn_net (with_arcs (net_of s) t taken given)) s
obeyed s (Propose set) =
    comes_to (propose_outcome (net_of s) (strands_of s) set) (length (strands_of s) + 1) (on_sheet (net_of s) (strands_of s ++ set ∷ [])) (on_sheet (net_of s) (strands_of s))
obeyed s Search = record { said = Err OutOfOrder; after = s }
obeyed s Certify = comes_to (certify_outcome (net_of s) (strands_of s)) 0 (running (started (net_of s) (strands_of s))) no_net
obeyed s (Fire t) =
    let r = run_of s in
    comes_to (fire_outcome r.net r.lit (shut_by r.guard r.channel None) t) 0 (running (with_lit r (exchange r.lit (r.net.takes t) (r.net.gives t)))) s
obeyed s (Signal channel event) = record { said = Ok 0; after = running (signalled_by (run_of s) channel event) }
obeyed s Halt = record { said = Ok 0; after = running (set_going (run_of s) false) }
obeyed s Resume = record { said = Ok 0; after = running (set_going (run_of s) true) }
obeyed s Home = record { said = Ok 0; after = running (with_lit (run_of s) (run_of s).net.marks) }
obeyed s (Answer to result detail lit) = record { said = Err OutOfOrder; after = s }

abbrev pub reply_to : Standing → Request → Reply
reply_to s request = cond (in_order s (asked_by request)) (obeyed s request) (record { said = Err OutOfOrder; after = s })

abbrev pub Gives : Reply → State → Result ℕ Refusal → Type 0
Gives reply state said = (standing_of state ≡ reply.after) × (said ≡ reply.said)
