use Rattle.std.proofs.Common.{rules, refl, ◌∙◌, arith}
use borrow.Author.Tests.{tests}
use Rattle.std.proofs.lemmas.Iterator.{YieldsList-from_range}
use Rattle.std.proofs.lemmas.Iterator.Consumers.{fold_from_yields_List}
use Rattle.board.proofs.Copies.{copy_line, copied_none, copied_more, copied_all}
use Rattle.board.proofs.snapshot.Snapshot.of.Goals as goal

pub returns : goal.returns
returns g c =
    let lit = g.L.Lines.lit c.args.lines.now in
    c.new.ensures
    ∙ fold_from_yields_List _ (copy_line lit) 0 c.fold-set.result c.fold-set.ensures.ran (YieldsList-from_range 0 64 64 refl refl)
    (λ set n r q k. search (rules, tests))
    ∙ copied_all lit _ (g.met.L.Lines.bounded c.args.lines.now) (copied_more lit 64 0 0 (omega arith) (copied_none lit))
