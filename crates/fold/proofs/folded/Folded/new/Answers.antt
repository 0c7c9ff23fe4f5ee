use Rattle.std.proofs.Common.{sym, ◌∙◌, arith}
use Rattle.fold.proofs.folded.Folded.new.Goals as goal

pub invariant_of-result : goal.invariant_of-result
invariant_of-result c = rw c.new.ensures (record { fused = c.copy-2.ensures ∙ sym c.copy.ensures; noted = λ k lt. absurd (omega arith) })
