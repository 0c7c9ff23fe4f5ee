use Rattle.std.proofs.Common.{rules, ℕ, ◌≡◌, ◌≢◌, ◌<◌, ◌≤◌, Option, Some, None, List, arith}
use Rattle.std.specs.Option.{MatchOption}
use borrow.Author.Tests.{tests}
use Rattle.std.proofs.lemmas.Iterator.{first_from_Range}
use Rattle.net.specs.Nets.{PetriNet, drawn}
use Rattle.weight.specs.Additions.{Addition}
use Rattle.weight.specs.Weights.{drift_of, Balances}
use Rattle.weight.proofs.weighing.balance.Goals as goal

module _ {W : Type 0} (a : Addition W) (minus : W → W) (n : PetriNet) (ws : List W) where
  abbrev Drifts : ℕ → Type 0
  Drifts t = drift_of a minus n ws t ≢ a.neutral

  abbrev Rests : ℕ → Type 0
  Rests t = drift_of a minus n ws t ≡ a.neutral

  -- what a search through the transitions finds
  found : (count : ℕ) → count ≡ n.transitions → (r : Option ℕ)
      → MatchOption r ((t : ℕ) → 0 ≤ t → t < count → Rests t) (λ t. (0 ≤ t) × (t < count) × Drifts t × ((u : ℕ) → 0 ≤ u → u < t → Rests u))
      → Balances a minus n ws r
  found count all (Some t) first = (omega (arith, first.1), first.2, λ u lt. first.3 u (omega arith) lt)
  found count all None none = λ u lt. none u (omega arith) (omega arith)

pub returns : goal.returns
returns g c =
    let a = g.W.Weight.addition in
    let minus = g.W.Weight.minus in
    let n = drawn c.args.net.now in
    found a minus n c.args.list.now c.transitions.result c.transitions.ensures c.find.result
    (first_from_Range _ _ _ c.find.result (Drifts a minus n c.args.list.now) (Rests a minus n c.args.list.now) c.find.ensures.ran (λ t q k. search (rules, tests)) (λ t q k. search (rules, tests)))
