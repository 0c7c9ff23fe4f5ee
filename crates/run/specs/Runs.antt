-- The lines of a run are those of its board.
--   run_lit   the lit set of a run
use Rattle.std.specs.Prelude.{ℕ}
use Rattle.run.specs.declared.runs.Driven.{Driven}

abbrev pub run_lit : {B S : Type 0} → (B → ℕ) → Driven B S → ℕ
run_lit lit run = lit run.board
