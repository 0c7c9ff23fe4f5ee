use Rattle.std.proofs.Common.{◌≡◌, ℕ, Bool, true, false, not, ap, ◌∙◌, rules}
use Rattle.std.proofs.lemmas.Iterator.{first_from_Range}
use Rattle.net.specs.Lowest.{lowest}
use Rattle.net.specs.Nets.{drawn}
use Rattle.net.proofs.Lows.{lowest_by_find}
use Rattle.cover.specs.Checks.{even_and_thin_at}
use Rattle.cover.proofs.checking.lowest_failure.Goals as goal

pub returns : goal.returns
returns c =
    let fails : ℕ → Bool = λ t. not (even_and_thin_at (drawn c.args.net.now) c.args.set t) in
    lowest_by_find _ fails _
    (first_from_Range _ _ _ _ (λ t. fails t ≡ true) (λ t. fails t ≡ false) c.find.ensures.ran (λ t q is. search rules) (λ t q is. search rules))
    ∙ ap (λ k. lowest k fails) c.transitions.ensures
