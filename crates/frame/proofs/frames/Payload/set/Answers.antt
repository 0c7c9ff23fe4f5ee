use Rattle.std.proofs.Common.{◌∙◌, rules}
use Rattle.frame.specs.Digits.{bytes_of}
use Rattle.frame.proofs.Fields.{set_from_bytes}
use Rattle.frame.proofs.frames.Payload.set.Goals as goal

pub returns : goal.returns
returns c = c.from_be_bytes.ensures ∙ set_from_bytes (bytes_of c.args.self.digits.now) c.from_fn-bytes.result c.args.at (search rules)
