use Rattle.std.proofs.Common.{◌≡◌, ◌+◌, ◌*◌, ◌<◌, ◌++◌, length, take, drop, sym, refl, ap, ◌∙◌, subst, ap₂, arith}
use Rattle.std.proofs.ByRecursion.{All-from_get_or}
use Rattle.std.proofs.lemmas.List.{take_at}
use Rattle.frame.specs.Kinds.{payload_length}
use Rattle.frame.specs.Lines.{line_of}
use Rattle.frame.specs.Frames.{ReadsAs}
use Rattle.frame.proofs.Again.{written_reads}
use Rattle.frame.proofs.Puts.{length_line}
use Rattle.frame.proofs.Rounds.{Bytes}
use Rattle.frame.proofs.Written.{kind_fits, too_short}
use Rattle.frame.proofs.writes.write.Goals as goal

pub returns-then-memory-length-clause-writes : goal.returns-then-memory-length-clause-writes
returns-then-memory-length-clause-writes c =
    let kind = c.args.kind in
    let payload = c.args.payload.now in
    let known = sym (ap payload_length c.in_ok-tag.ensures) ∙ c.payload_length-bytes.ensures in
    let line = length_line kind payload in
    (too_short kind payload c.payload_length-bytes.result known c.if-payload-bytes.false (length c.args.memory.now) (omega arith), refl)

pub returns-clause-reads_again : goal.returns-clause-reads_again
returns-clause-reads_again c =
    let kind = c.args.kind in
    let payload = c.args.payload.now in
    let before = c.args.memory.now in
    let known = sym (ap payload_length c.in_ok-tag.ensures) ∙ c.payload_length-bytes.ensures in
    let long = c.if-payload-bytes.false in
    let n = c.payload_length-bytes.result in
    let line = length_line kind payload in
    let room : 2 * length payload + 5 ≡ 2 * n + 5 = omega arith in
    let is : length (line_of kind payload) ≡ 2 * n + 5 = omega arith in
    let after = c.put_line.ensures ∙ ap₂ (λ b k. line_of b payload ++ drop k before) c.in_ok-tag.ensures room in
    let byte : kind < 256 = omega arith in
    let bytes : Bytes payload = All-from_get_or (λ b. b < 256) payload 0 (λ i lt. omega (arith, c.type_inv.payload i)) in
    let front = ap (take (2 * n + 5)) after ∙ take_at (line_of kind payload) (drop (2 * n + 5) before) (2 * n + 5) is in
    subst (λ l. ReadsAs l kind payload) (sym front) (written_reads kind payload byte bytes (kind_fits kind payload n known long))
