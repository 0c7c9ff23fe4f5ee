use Rattle.std.proofs.Common.{◌++◌, codes, decimal, sym, ap, ◌∙◌, append_assoc, rules}
use Rattle.std.proofs.Output.{has_written_append, has_written_of_eq}
use Rattle.report.specs.Texts.{listed}
use Rattle.report.proofs.Listings.{listed_none, listed_more, listed_passed}
use Rattle.report.proofs.texts.BracedDisplay.fmt.Goals as goal
use Rattle.report.proofs.texts.BracedDisplay.fmt.Goals.{then-has+in_ok-write, else-has}

pub loop-place-init : goal.loop-place-init
loop-place-init g c = λ plain. has_written_of_eq _ _ _ _ _ (ap (λ l. codes "{" ++ l) (sym (listed_none c.args.self.now.0))) (search rules)

pub loop-place-preserved : goal.loop-place-preserved
loop-place-preserved g c = λ plain.
    let n = c.loop-place.place-counter in
    let s = c.args.self.now.0 in
    elim c.if-has.branch [
      | then-has+in_ok-write w ↦
          rw w.f-is (has_written_of_eq _ _ _ _ _
          (append_assoc (codes "{") (listed n s) (codes " " ++ decimal n) ∙ ap (λ l. codes "{" ++ l) (sym (listed_more n s (sym c.has.ensures ∙ w.if-has.true))))
          (has_written_append _ _ _ _ _ _ (c.loop-place.invariant plain) (search rules)))
      | else-has w ↦ rw w.f-is (has_written_of_eq _ _ _ _ _ (ap (λ l. codes "{" ++ l) (sym (listed_passed n s (sym c.has.ensures ∙ w.if-has.false)))) (c.loop-place.invariant plain))
    ]
