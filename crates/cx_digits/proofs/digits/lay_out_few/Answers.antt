use Rattle.std.proofs.Common.{◌∙◌, ap, ◌-◌, get_or, drop, arith}
use Rattle.std.proofs.lemmas.Fmt.{length-decimal-le}
use Rattle.cx_digits.proofs.DigitLaws.{few_laid}
use Rattle.cx_digits.proofs.digits.lay_out_few.Goals as goal

pub overflow_sub-result : goal.overflow_sub-result
overflow_sub-result c = omega (arith, ap (λ t. get_or t 0 0) c.triple.ensures, length-decimal-le 3 c.args.number (omega arith) (omega arith) (omega arith))

pub returns-clause-begin : goal.returns-clause-begin
returns-clause-begin c = omega (arith, ap (λ t. get_or t 0 0) c.triple.ensures, length-decimal-le 3 c.args.number (omega arith) (omega arith) (omega arith))

pub returns-clause-laid : goal.returns-clause-laid
returns-clause-laid c =
    ap (λ t. drop (c.args.end - get_or t 0 0) c.lay_out_three.new.sheet) c.triple.ensures
    ∙ few_laid c.args.number c.args.end c.lay_out_three.new.sheet _ (omega arith) c.lay_out_three.ensures c.requires.few
