-- The board of a job: a gate over a word board.
--   Panel                              the board
--   lit, closed, signalled             its meaning: the lit set, the shut channel, and its own rule for a signal
--   IsNew                              a gate on channel 0 that is Ready, over a word board with no line lit
use Rattle.std.specs.Prelude.{◌≡◌, ℕ, None, Option}
use Rattle.board.specs.Guards.{gate_lit, gate_shut, Signalled}
use Rattle.board.specs.declared.gate.Gate.{Gate}
use Rattle.board.specs.declared.gate.Guard.TheVariants.{Ready}
use Rattle.board.specs.declared.word.Word.{Word}

abbrev pub Panel : Type 0
Panel = Gate Word

abbrev pub lit : Panel → ℕ
lit = gate_lit (λ w. w.set)

abbrev pub closed : Panel → Option ℕ
closed = gate_shut (λ w. None)

abbrev pub signalled : Panel → ℕ → ℕ → Panel → Type 0
signalled = Signalled (λ w channel event after. after ≡ w)

abbrev pub IsNew : Panel → Type 0
IsNew b = (b.channel ≡ 0) × (b.guard ≡ Ready) × (b.below.set ≡ 0)
