use Rattle.std.proofs.Common.{rules, ℕ, cond, get_or, sym, refl, ◌∙◌}
use borrow.Author.Tests.{tests}
use Rattle.std.proofs.lemmas.Iterator.{YieldsList-from_range}
use Rattle.std.proofs.lemmas.Iterator.Consumers.{fold_from_yields_List}
use Rattle.net.specs.Sets.{has}
use Rattle.weight.proofs.Sums.{summed_none, summed_where}
use Rattle.weight.proofs.weighing.weigh.Goals as goal

pub returns : goal.returns
returns g c =
    let a = g.W.Weight.addition in
    let lit = g.L.Lines.lit c.args.lines.now in
    let entry : ℕ → g.row.W.Denot = λ n. get_or c.args.list.now n a.neutral in
    fold_from_yields_List _ (λ x n. cond (has lit n) (a.plus x (entry n)) x) c.NEUTRAL.result c.fold.result c.fold.ensures.ran (YieldsList-from_range 0 64 64 refl refl)
    (λ x n r q k. search (rules, tests))
    ∙ summed_where a g.met.W.Weight.monoid (has lit) entry 64 0 c.NEUTRAL.result (c.NEUTRAL.ensures ∙ g.met.W.Weight.neutral_law ∙ sym (summed_none a _))
