use Rattle.std.proofs.Common.{◌≡◌, sym, ◌∙◌, ◌+◌, ◌-◌, ◌^◌, min, true, get_or}
use Rattle.cx_texts.specs.Words.{is_digit}
use Rattle.cx_texts.proofs.DigitLaws.{capped_more}
use Rattle.cx_texts.proofs.natural.read_natural.Goals as goal

pub loop-digit-preserved : goal.loop-digit-preserved
loop-digit-preserved c =
    let at = c.loop-digit.digit-index in
    let digit : is_digit (get_or c.args.digits.now at 0) ≡ true = sym c.is_digit_byte.ensures ∙ c.if-not-is_digit_byte.false in
    let more = capped_more c.args.digits.now at c.loop-digit.value c.loop-digit-test.true digit c.loop-digit.invariant in
    (more.0, c.saturating_add-value.ensures ∙ (λ i. min (c.saturating_mul.ensures i + c.from.ensures i) (2 ^ 64 - 1)) ∙ more.1)
