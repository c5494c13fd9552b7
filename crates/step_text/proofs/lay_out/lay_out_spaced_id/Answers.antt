use Rattle.std.proofs.Common.{◌≡◌, ◌+◌, ◌-◌, arith, refl}
use Rattle.std.proofs.lemmas.Fmt.{length-decimal-le}
use Rattle.std.proofs.lemmas.List.{drop-set}
use Rattle.step_text.proofs.lay_out.lay_out_spaced_id.Goals as goal

pub overflow_sub-sheet : goal.overflow_sub-sheet
overflow_sub-sheet c = omega (arith, c.lay_out_number-begin.ensures.begin, length-decimal-le 20 c.args.name (omega arith) (omega arith) (omega arith))

pub overflow_sub-result : goal.overflow_sub-result
overflow_sub-result c = omega (arith, c.lay_out_number-begin.ensures.begin, length-decimal-le 20 c.args.name (omega arith) (omega arith) (omega arith))

pub returns-clause-low : goal.returns-clause-low
returns-clause-low c = omega (arith, c.lay_out_number-begin.ensures.begin, length-decimal-le 20 c.args.name (omega arith) (omega arith) (omega arith))

pub returns-clause-laid : goal.returns-clause-laid
returns-clause-laid c =
    let w = c.lay_out_number-begin in
    let long = length-decimal-le 20 c.args.name (omega arith) (omega arith) (omega arith) in
    let e : w.result - 1 + 1 ≡ w.result = omega (arith, w.ensures.begin, long) in
    rw (drop-set w.new.sheet (w.result - 1) 32 (omega (arith, w.ensures.begin, long)), e, w.ensures.laid) refl
