-- The lines of an input, one after another.
--   uncut      what is left to be cut into lines
--   CutsLine   a line was cut from the front, or nothing was left
use Rattle.std.specs.Prelude.{◌≡◌, ℕ, List, [], Option, MatchOption, ◌<◌, length}
use Rattle.std.specs.Borrow.{Bor}
use Rattle.frame.specs.declared.cuts.Lines.{Lines}
use Rattle.frame.specs.Cuts.{Cut}

abbrev pub uncut : Lines → List ℕ
uncut lines = lines.rest.now

abbrev pub CutsLine : List ℕ → Option (Bor (List ℕ)) → List ℕ → Type 0
CutsLine input line rest = MatchOption line ((input ≡ []) × (rest ≡ [])) (λ l. (0 < length input) × Cut input l.now rest)
