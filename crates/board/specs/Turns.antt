-- The turned board, by the board below and the set of lines that are turned over.
--   turn         the lines of one set that are not in the other, with those of the other that are not in the one
--   light_below  what an exchange lights on the board below, which darkens there all lines that the exchange touches
--   turned_lit   its lit set
--   turned_shut  its shut channel: that of the board below
--   Signalled    what a signal does: it goes to the board below, and the same lines stay turned
use Rattle.std.specs.Prelude.{◌≡◌, ℕ, Option, bit_xor}
use Rattle.net.specs.Sets.{union, intersection}
use Rattle.board.specs.declared.turned.Turned.{Turned}

-- the symmetric difference
abbrev pub turn : ℕ → ℕ → ℕ
turn s t = bit_xor s t

-- of the lines that the exchange touches, those that it leaves lit and that are not turned, and those that it leaves dark and that are
abbrev pub light_below : ℕ → ℕ → ℕ → ℕ
light_below dark light set = intersection (union dark light) (turn light set)

module _ {B : Type 0} where
  abbrev pub turned_lit : (B → ℕ) → Turned B → ℕ
  turned_lit lit b = turn (lit b.below) b.set

  abbrev pub turned_shut : (B → Option ℕ) → Turned B → Option ℕ
  turned_shut closed b = closed b.below

  abbrev pub Signalled : (B → ℕ → ℕ → B → Type 0) → Turned B → ℕ → ℕ → Turned B → Type 0
  Signalled signalled before channel event after = (after.set ≡ before.set) × signalled before.below channel event after.below
