use Rattle.std.proofs.Common.{◌∙◌, sym, ap, ◌++◌, ◌/◌, ◌%◌, decimal, drop, arith, append_assoc}
use Rattle.cx_digits.specs.Digits.{three_digits}
use Rattle.cx_digits.proofs.DigitLaws.{last_three, three_more}
use Rattle.cx_digits.proofs.digits.lay_out_six.Goals as goal

pub returns-clause-begin : goal.returns-clause-begin
returns-clause-begin c = omega (arith, three_more c.args.number (omega arith) (omega arith), c.lay_out_few-2.ensures.begin)

pub returns-clause-laid : goal.returns-clause-laid
returns-clause-laid c =
    let n = c.args.number in
    let behind = drop c.args.end c.args.sheet.now in
    let front = decimal (n / 1000) in
    let last = three_digits (n % 1000) in
    c.lay_out_few-2.ensures.laid
    ∙ ap (λ t. front ++ t) c.lay_out_three.ensures
    ∙ sym (append_assoc front last behind)
    ∙ ap (λ t. t ++ behind) (sym (last_three n (omega arith) (omega arith)))
