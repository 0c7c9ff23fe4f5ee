-- A set walked by its lowest member.
--   TakesLowest   the lowest member was taken out of a set; or the set was empty, and stays so
use Rattle.std.specs.Prelude.{◌≡◌, ℕ, ◌^◌, Option, MatchOption}
use Rattle.net.specs.Lowest.{Lowest}
use Rattle.net.specs.Sets.{has, difference}

abbrev pub TakesLowest : ℕ → Option ℕ → ℕ → Type 0
TakesLowest set place rest = Lowest 64 (has set) place × MatchOption place (rest ≡ set) (λ p. rest ≡ difference set (2 ^ p))
