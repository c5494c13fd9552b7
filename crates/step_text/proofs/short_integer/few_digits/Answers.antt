use Rattle.std.proofs.Common.{sym, ◌∙◌, arith, ◌+◌, ◌*◌, ◌<◌, length}
use Rattle.cx_texts.proofs.DigitLaws.{one_more_digit}
use Rattle.cx_texts.proofs.FrontLaws.{few_digits}
use Rattle.step_text.proofs.short_integer.few_digits.Goals as goal

pub loop-len-preserved : goal.loop-len-preserved
loop-len-preserved c =
    let text = c.args.text.now in
    let few : c.loop-len.len < length text = omega arith in
    let more = one_more_digit text c.loop-len.len few (sym c.is_digit_byte.ensures ∙ c.if-is_digit_byte.true) c.loop-len.invariant.1 in
    (omega arith, more.0, (λ i. c.loop-len.invariant.2 i * 10 + c.from.ensures i) ∙ sym more.1)

pub overflow_mul-value : goal.overflow_mul-value
overflow_mul-value c =
    let small : c.loop-len.value < 100000000000000000 = few_digits c.args.text.now c.loop-len.len c.loop-len.value 17 (omega arith) (omega arith) c.loop-len.invariant.1 c.loop-len.invariant.2 in
    omega arith

pub overflow_add-value : goal.overflow_add-value
overflow_add-value c =
    let small : c.loop-len.value < 100000000000000000 = few_digits c.args.text.now c.loop-len.len c.loop-len.value 17 (omega arith) (omega arith) c.loop-len.invariant.1 c.loop-len.invariant.2 in
    omega arith

pub returns-else-is_digit_byte-clause-small : goal.returns-else-is_digit_byte-clause-small
returns-else-is_digit_byte-clause-small c = few_digits c.args.text.now c.loop-len.len c.loop-len.value 18 (omega arith) (omega arith) c.loop-len.invariant.1 c.loop-len.invariant.2

pub returns-after-loop-len-clause-small : goal.returns-after-loop-len-clause-small
returns-after-loop-len-clause-small c = few_digits c.args.text.now c.loop-len.len c.loop-len.value 18 (omega arith) (omega arith) c.loop-len.invariant.1 c.loop-len.invariant.2
