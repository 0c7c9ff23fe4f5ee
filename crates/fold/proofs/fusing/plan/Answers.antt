use Rattle.std.proofs.Common.{unwrap_or, sym, ap, ◌∙◌}
use Rattle.net.specs.Nets.{drawn}
use Rattle.net.specs.Sets.{has}
use Rattle.net.proofs.Lows.{lowest_is}
use Rattle.fold.specs.Fusions.{member}
use Rattle.fold.specs.Steps.{step_of}
use Rattle.fold.proofs.fusing.plan.Goals as goal

pub returns-in-Places-clause-step : goal.returns-in-Places-clause-step
returns-in-Places-clause-step c =
    let n = drawn c.args.net.now in
    let place = c.unwrap_or-place.ensures ∙ ap (λ o. unwrap_or o 0) (lowest_is 64 (has c.gives.result) c.lowest.result c.lowest.ensures) ∙ ap member c.gives.ensures in
    (λ i. record { place = place i; set = c.takes-set.ensures i }) ∙ sym (ap (step_of n) c.in-Places.is)
