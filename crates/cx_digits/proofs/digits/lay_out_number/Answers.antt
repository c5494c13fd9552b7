use Rattle.std.proofs.Common.{◌∙◌, sym, ap, ◌++◌, ◌/◌, ◌%◌, decimal, drop, arith, rules, append_assoc}
use Rattle.std.proofs.lemmas.Fmt.{length-decimal-le}
use Rattle.cx_digits.specs.Digits.{three_digits}
use Rattle.cx_digits.proofs.DigitLaws.{last_three, three_more}
use Rattle.cx_digits.proofs.digits.lay_out_number.Goals as goal

pub write_digits-requires : goal.write_digits-requires
write_digits-requires c = (omega (arith, length-decimal-le 20 c.args.number (omega arith) (omega arith) (omega arith)), search rules)

pub returns-then-number-lt-NINE_DIGITS-clause-begin : goal.returns-then-number-lt-NINE_DIGITS-clause-begin
returns-then-number-lt-NINE_DIGITS-clause-begin c = omega (arith, three_more c.args.number (omega arith) (omega arith), c.lay_out_six-then-number-lt-NINE_DIGITS.ensures.begin)

pub returns-then-number-lt-NINE_DIGITS-clause-laid : goal.returns-then-number-lt-NINE_DIGITS-clause-laid
returns-then-number-lt-NINE_DIGITS-clause-laid c =
    let n = c.args.number in
    let behind = drop c.args.end c.args.sheet.now in
    let front = decimal (n / 1000) in
    let last = three_digits (n % 1000) in
    c.lay_out_six-then-number-lt-NINE_DIGITS.ensures.laid
    ∙ ap (λ t. front ++ t) c.lay_out_three.ensures
    ∙ sym (append_assoc front last behind)
    ∙ ap (λ t. t ++ behind) (sym (last_three n (omega arith) (omega arith)))
