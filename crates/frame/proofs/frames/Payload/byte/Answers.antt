use Rattle.std.proofs.Common.{◌∙◌, sym, arith}
use Rattle.frame.proofs.Fields.{byte_at, no_byte}
use Rattle.frame.proofs.frames.Payload.byte.Goals as goal

pub returns-then-self-at : goal.returns-then-self-at
returns-then-self-at c = sym (no_byte c.args.self.digits.now c.args.at (omega arith))

pub returns : goal.returns
returns c = c.byte.ensures ∙ sym (byte_at c.args.self.digits.now c.args.at (omega arith))
