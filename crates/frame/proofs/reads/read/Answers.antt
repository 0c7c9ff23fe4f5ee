use Rattle.std.proofs.Common.{◌≡◌, ◌<◌, ◌≤◌, length, get_or, None, Err, sym, ◌∙◌, subst, arith, rules}
use Rattle.refusal.specs.declared.Refusal.TheVariants.{OddOrShort, WrongCheck, UnknownKind}
use Rattle.frame.specs.Kinds.{payload_length}
use Rattle.frame.specs.Lines.{check_digits}
use Rattle.frame.specs.Frames.{DigitsRead, Reads}
use Rattle.frame.proofs.Fields.{byte_at, two_digits}
use Rattle.frame.proofs.Again.{result_writes}
use Rattle.frame.proofs.Readings.{sum_passes, too_few, wrong_check, unknown_kind, middle, reads_digits}
use Rattle.frame.proofs.reads.read.Goals as goal

pub returns-in_default-clause-reads : goal.returns-in_default-clause-reads
returns-in_default-clause-reads c =
    let ds = c.digits_in-digits.result.now in
    let (digits, _) = sum_passes ds c.in_ok-sum.ensures.0 in
    let few : length ds < 4 = search rules in
    (subst (λ l. check_digits l ≡ Err OddOrShort) c.digits_in-digits.ensures (too_few ds digits few), tt)

pub returns-then-sum-ne0 : goal.returns-then-sum-ne0
returns-then-sum-ne0 c =
    let ds = c.digits_in-digits.result.now in
    let (none, is) = c.in_ok-sum.ensures in
    let (digits, even) = sum_passes ds none in
    let long : 4 ≤ length ds = search rules in
    record {
      reads = (subst (λ l. check_digits l ≡ Err WrongCheck) c.digits_in-digits.ensures (wrong_check ds (digits, even, long) (λ e. c.if-sum-ne0.true (is ∙ e))), tt);
      writes_again = tt;
    }

pub returns-in_err-tag-clause-reads : goal.returns-in_err-tag-clause-reads
returns-in_err-tag-clause-reads c =
    let ds = c.digits_in-digits.result.now in
    let (none, is) = c.in_ok-sum.ensures in
    let (digits, even) = sum_passes ds none in
    let long : 4 ≤ length ds = search rules in
    let (why, unknown) = c.in_err-tag.ensures in
    let told : c.from_residual-in_err-tag.result ≡ Err UnknownKind = search rules in
    let kind = two_digits (get_or ds 0 0) (get_or ds 1 0) c.in-Some.high c.in-Some-digit.low (sym c.digit.ensures ∙ c.in-Some.is) (sym c.digit-2.ensures ∙ c.in-Some-digit.is) ∙ sym (byte_at ds 0 (omega arith)) in
    rw told (subst (λ l. check_digits l ≡ Err UnknownKind) c.digits_in-digits.ensures (unknown_kind ds (digits, even, long) (sym is ∙ c.if-sum-ne0.false) (subst (λ k. payload_length k ≡ None) kind unknown)), tt)

pub returns : goal.returns
returns c =
    let ds = c.digits_in-digits.result.now in
    let (none, is) = c.in_ok-sum.ensures in
    let (digits, even) = sum_passes ds none in
    let long : 4 ≤ length ds = search rules in
    let kind = c.in_ok-tag.ensures ∙ two_digits (get_or ds 0 0) (get_or ds 1 0) c.in-Some.high c.in-Some-digit.low (sym c.digit.ensures ∙ c.in-Some.is) (sym c.digit-2.ensures ∙ c.in-Some-digit.is) ∙ sym (byte_at ds 0 (omega arith)) in
    let reading : Reads c.args.line.now c.args.place c.frame.result =
    subst (λ l. DigitsRead l c.args.place c.frame.result) c.digits_in-digits.ensures
    (reads_digits ds _ c.args.place _ c.frame.result (digits, even, long) (sym is ∙ c.if-sum-ne0.false) kind (middle ds) c.frame.ensures) in
    record { reads = reading; writes_again = result_writes c.args.line.now c.args.place c.frame.result reading }
