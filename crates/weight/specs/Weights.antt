-- What lines weigh, by a list of weights: entry n is the weight of line n.
--   summed          f 0 + f 1 + .. + f (k - 1)
--   weight_where    the sum of the entries of those of the 64 lines that pass a test
--   weight_of       the sum of the entries of the lines of a set
--   drift_of        by how much a transition changes what is lit weighs: what it gives, less what it takes
--   drift_of_all    the sum of the drifts of a list of transitions
--   Balances        the lowest transition with a drift that is not neutral, or none
use Rattle.std.specs.Prelude.{◌≡◌, ℕ, zero, suc, ◌<◌, Bool, cond, List, [], ◌∷◌, Some, None, Option, ◌≢◌, nat_lt, slice_index_or}
use Rattle.net.specs.Sets.{has}
use Rattle.net.specs.Nets.{PetriNet}
use Rattle.weight.specs.Additions.{Addition}

module _ {W : Type 0} (a : Addition W) where
  unfoldable pub summed : ℕ → (ℕ → W) → W
  summed zero f = a.neutral
  summed (suc k) f = a.plus (summed k f) (f k)

  -- a line past the end of the list has the neutral weight, and entries from 64 on belong to no line
  abbrev pub weight_where : (ℕ → Bool) → List W → W
  weight_where test ws = summed 64 (λ n. cond (test n) (slice_index_or ws n a.neutral) a.neutral)

  abbrev pub weight_of : ℕ → List W → W
  weight_of set ws = weight_where (has set) ws

  module _ (minus : W → W) (n : PetriNet) (ws : List W) where
    -- neutral where there is no such transition
    abbrev pub drift_of : ℕ → W
    drift_of t = cond (nat_lt t n.transitions) (a.plus (weight_of (n.gives t) ws) (minus (weight_of (n.takes t) ws))) a.neutral

    abbrev pub drift_of_all : List ℕ → W
    drift_of_all [] = a.neutral
    drift_of_all (t ∷ ts) = a.plus (drift_of_all ts) (drift_of t)

    abbrev pub Balances : Option ℕ → Type 0
    Balances (Some t) = (t < n.transitions) × (drift_of t ≢ a.neutral) × ((u : ℕ) → u < t → drift_of u ≡ a.neutral)
    Balances None = (u : ℕ) → u < n.transitions → drift_of u ≡ a.neutral
