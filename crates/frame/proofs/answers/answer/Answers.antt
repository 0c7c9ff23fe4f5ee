use Rattle.std.proofs.Common.{◌≡◌, ℕ, ◌+◌, List, replicate, sym, refl, ap, ◌∙◌, subst, rules}
use Rattle.frame.specs.Frames.{numbered}
use Rattle.frame.specs.Lines.{line_of}
use Rattle.frame.specs.Replies.{set_bytes, ReadsAnswer}
use Rattle.frame.proofs.Replied.{payload, payload_from, payload_from_set, answer_is, answer_held, answer_reads}
use Rattle.frame.proofs.answers.answer.Goals as goal

bytes : (c : goal.After-line-2-1) → c.to_be_bytes.result ≡ set_bytes c.args.lit
unfolding set_bytes
bytes c = c.to_be_bytes.ensures

held : (c : goal.After-line-2-1) → c.put_line.new.memory ≡ line_of (128 + numbered c.args.to) (payload c.args.res c.args.detail c.args.lit)
held c =
    answer_held c.args.to c.args.res c.args.detail c.args.lit (128 + numbered c.args.to) (payload_from c.args.res c.args.detail c.to_be_bytes.result) (replicate 25 0) c.put_line.new.memory
    refl (ap (payload_from c.args.res c.args.detail) (bytes c) ∙ payload_from_set c.args.res c.args.detail c.args.lit) refl c.put_line.ensures

pub returns : goal.returns
returns c =
    record {
      line = held c ∙ answer_is c.args.to c.args.res c.args.detail c.args.lit;
      reads_again = subst (λ (l : List ℕ). ReadsAnswer l c.args.to c.args.res c.args.detail c.args.lit) (sym (held c))
          (answer_reads c.args.to c.args.res c.args.detail c.args.lit (search rules) (search rules) (search rules));
    }
