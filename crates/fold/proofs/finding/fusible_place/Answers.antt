use Rattle.std.proofs.Common.{◌≡◌, ℕ, Bool, true, false, ap, ◌∙◌, rules}
use Rattle.std.proofs.lemmas.Iterator.{first_from_Range}
use Rattle.net.specs.Lowest.{lowest}
use Rattle.net.specs.Nets.{drawn}
use Rattle.net.proofs.Lows.{lowest_by_find}
use Rattle.fold.specs.Fusions.{transition_fusible}
use Rattle.fold.proofs.finding.fusible_place.Goals as goal

pub returns : goal.returns
returns c =
    let test : ℕ → Bool = transition_fusible (drawn c.args.net.now) in
    lowest_by_find _ test _
    (first_from_Range _ _ _ _ (λ m. test m ≡ true) (λ m. test m ≡ false) c.find.ensures.ran (λ m q is. search rules) (λ m q is. search rules))
    ∙ ap (λ k. lowest k test) c.places.ensures
