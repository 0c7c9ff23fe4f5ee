-- A board that follows the counted net, call by call.
--   Shows                  the lit lines are the places that count 1, and no place counts more
--   Follows                the boards go by their rules, and the answers are those of the counted net
--   LinesFollowTheNet      a whole run from its start
--   WeightsFollowTheFires  what is lit weighs what the marks weigh, plus the drift of each accepted fire
use Rattle.std.specs.Prelude.{◌≡◌, ℕ, ◌<◌, ◌≤◌, ◌↔◌, List, [], ◌∷◌, Option}
use Rattle.net.specs.Counting.{Marking}
use Rattle.net.specs.Nets.{PetriNet}
use Rattle.net.specs.Sets.{In}
use Rattle.board.specs.Rules.{Laid}
use Rattle.weight.specs.Additions.{Addition}
use Rattle.weight.specs.Weights.{weight_of, drift_of_all}
use Rattle.run.specs.States.{State, Moved}
use Rattle.run.specs.Counted.{Counting, started, counted_answer, counted_after}
use Rattle.run.specs.Log.{accepted, NoneOccupied}
use Rattle.run.specs.declared.calls.Entry.{Entry}

pub record Shows (n : PetriNet) (lit : ℕ) (m : Marking) : Type 0 where
  pub one_at_most : (p : ℕ) → m p ≤ 1
  pub lit_where_counted : (p : ℕ) → In p lit ↔ ((p < n.places) × (m p ≡ 1))

module _ {B W : Type 0} (lit : B → ℕ) (closed : B → Option ℕ) (signalled : B → ℕ → ℕ → B → Type 0) (add : Addition W) (n : PetriNet) (strands : List ℕ) (weights : List W) where
  -- from the counted net s and the board b the log leads to s' and b': each call moves the board by the board's own rules,
  -- and is answered as the counted net answers it, which is told the channel of the board after a signal,
  -- and leaves the counts shown by the lines
  abbrev pub Follows : Counting → B → List (Entry W) → Counting → B → Type 0
  Follows s b [] s' b' = (s ≡ s') × (b ≡ b')
  Follows s b (e ∷ es) s' b' =
      (next : B) × Moved lit closed signalled n e.call e.answer b next
      × (e.answer ≡ counted_answer add n strands weights s e.call)
      × Shows n (lit next) (counted_after n s e.call (closed next)).marking
      × Follows (counted_after n s e.call (closed next)) next es s' b'

  -- a run that began with the board `passed`, and now is `ended`
  pub record LinesFollowTheNet (passed : B) (log : List (Entry W)) (ended : State B) : Type 0 where
    -- the first board has the marks lit, and the shut channel of the board that was passed
    pub first : B
    pub starts : Laid lit closed n.marks passed first
    -- the counted net begins with the marks and that channel, and follows to the end
    pub last : Counting
    pub follows : Follows (started n (closed first)) first log last ended.board
    -- it goes where the run goes, and knows the shut channel
    pub goes_alike : last.going ≡ ended.going
    pub shut_alike : last.shut ≡ closed ended.board
    -- no place counts more than 1, and the lit lines are the places that count 1
    pub shows : Shows n (lit ended.board) last.marking
    -- and no fire found a place that it gives lit
    pub none_occupied : NoneOccupied log

-- whatever the weights: the fires are those accepted since the start or the last home
abbrev pub WeightsFollowTheFires : {W : Type 0} → Addition W → (W → W) → PetriNet → List (Entry W) → ℕ → Type 0
WeightsFollowTheFires {W} add minus n log lit =
    (ws : List W) → weight_of add lit ws ≡ add.plus (weight_of add n.marks ws) (drift_of_all add minus n ws (accepted [] log))
