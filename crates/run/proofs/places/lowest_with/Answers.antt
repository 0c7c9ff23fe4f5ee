use Rattle.std.proofs.Common.{ℕ, Bool, refl, rules}
use Rattle.net.specs.Sets.{has}
use Rattle.run.specs.Firing.{agrees}
use Rattle.run.proofs.Walks.{lowest_by_walk}
use Rattle.run.proofs.places.lowest_with.Goals as goal

pub returns : goal.returns
returns g c =
    let test : ℕ → Bool = λ p. agrees c.args.wanted (has (g.L.Lines.lit c.args.lines.now) p) in
    lowest_by_walk _ c.args.set test (λ p q is. search rules) (λ p q is. search rules) _ _ _ refl c.find.ensures.ran
