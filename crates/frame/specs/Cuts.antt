-- An input cut into lines.
--   lines_of   the lines of an input: each ends with its line feed, which the last one may lack; an empty line is a line feed alone
--   FreeBelow  no line feed stands below a place
--   Cut        an input cut into its first line and what comes after it
use Rattle.std.specs.Prelude.{◌≡◌, ℕ, ◌+◌, ◌-◌, ◌<◌, cond, List, [], ◌∷◌, ◌++◌, length, ◌==◌, ◌≢◌, slice_index}

-- lines with one character more at the front
abbrev pub longer : ℕ → List (List ℕ) → List (List ℕ)
longer c [] = (c ∷ []) ∷ []
longer c (line ∷ lines) = (c ∷ line) ∷ lines

abbrev pub lines_of : List ℕ → List (List ℕ)
lines_of [] = []
lines_of (c ∷ cs) = cond (c == 10) ((c ∷ []) ∷ lines_of cs) (longer c (lines_of cs))

abbrev pub FreeBelow : ℕ → List ℕ → Type 0
FreeBelow i input = (k : ℕ) → k < i → slice_index input k ≢ 10

pub record Cut (input line rest : List ℕ) : Type 0 where
  pub whole : line ++ rest ≡ input
  pub some : 0 < length input → 0 < length line
  pub feed_ends : (i : ℕ) → i + 1 < length line → slice_index line i ≢ 10
  pub feed_between : 0 < length rest → slice_index line (length line - 1) ≡ 10
  pub first : 0 < length input → lines_of input ≡ line ∷ lines_of rest
