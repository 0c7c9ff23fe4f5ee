-- Which lines are in order.
--   one_of    whether the number is in the list
--   allowed   the kinds that are in order, by how the job stands, each by its byte
--   in_order  whether a kind of line is in order; a line of no kind never is
use Rattle.std.specs.Prelude.{ℕ, Bool, false, cond, ◌||◌, List, [], ◌∷◌, Option, ◌==◌}
use Rattle.frame.specs.Frames.{numbered}
use Rattle.frame.specs.declared.kinds.Kind.{Kind}
use Rattle.job.specs.Standings.{Standing, no_net, drawn_net, on_sheet, running}

abbrev pub one_of : ℕ → List ℕ → Bool
one_of k [] = false
one_of k (x ∷ xs) = k == x || one_of k xs

-- without a net only a drawing; then arcs, and what puts the net on a sheet; on a sheet no arcs any more;
-- a going run fires, is signalled and is halted; a halted one is signalled, resumed and sent home
abbrev pub allowed : Standing → List ℕ
allowed no_net = 1 ∷ []
allowed (drawn_net n) = 2 ∷ (3 ∷ (4 ∷ (5 ∷ [])))
allowed (on_sheet n strands) = 3 ∷ (4 ∷ (5 ∷ []))
allowed (running r) = cond r.going (6 ∷ (7 ∷ (8 ∷ []))) (7 ∷ (9 ∷ (10 ∷ [])))

abbrev pub in_order : Standing → Option Kind → Bool
in_order s kind = one_of (numbered kind) (allowed s)
