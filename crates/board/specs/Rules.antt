-- What every board does, by its set of lit lines and its shut channel.
--   Laid       the set is lit, and the shut channel is as it was
--   Exchanged  an exchange, by its answer: done, or refused with the shut channel
use Rattle.std.specs.Prelude.{◌≡◌, ℕ, Some, None, Ok, Err, Option, Result}
use Rattle.net.specs.Sets.{exchange}
use Rattle.board.specs.declared.shut.Shut.{Shut}

module _ {B : Type 0} (lit : B → ℕ) (closed : B → Option ℕ) where
  pub record Laid (set : ℕ) (before after : B) : Type 0 where
    pub lines : lit after ≡ set
    pub channel : closed after ≡ closed before

  -- done only where no channel is shut: dark goes out, then light goes on; refused with the shut channel, the board is as it was
  abbrev pub Exchanged : ℕ → ℕ → B → Result (Unit {0}) Shut → B → Type 0
  Exchanged dark light before (Ok _) after = (closed before ≡ None) × Laid (exchange (lit before) dark light) before after
  Exchanged dark light before (Err shut) after = (closed before ≡ Some shut.channel) × (after ≡ before)
