use Rattle.std.proofs.Common.{◌-◌, get_or, arith}
use Rattle.parity_engine.proofs.Rising.{rises-least}
use Rattle.gf2_matrix.proofs.ColumnSets.{next_none, next_some}
use Rattle.gf2_matrix.proofs.column_set.next_in_set.Goals as goal

pub overflow_sub-result : goal.overflow_sub-result
overflow_sub-result c = let low = rises-least 1 c.args.numbers.now c.in-Some.place c.requires.rise c.in-Some.ensures.0 in omega arith

pub returns-in-None-clause-none : goal.returns-in-None-clause-none
returns-in-None-clause-none c = λ rows x least set at. next_none rows x c.args.numbers.now c.args.words.now set least c.args.from at c.in-None.ensures

pub returns-in-Some-clause-near : goal.returns-in-Some-clause-near
returns-in-Some-clause-near c = let first = c.in-Some.ensures.1 in let low = first.low in let lt = c.in-Some.ensures.0 in (omega arith, omega arith)

pub returns-in-Some-clause-some : goal.returns-in-Some-clause-some
returns-in-Some-clause-some c = λ rows x least set at.
    let low = rises-least 1 c.args.numbers.now c.in-Some.place c.requires.rise c.in-Some.ensures.0 in
    next_some rows x c.args.numbers.now c.args.words.now set least c.args.from at c.in-Some.place (get_or c.args.numbers.now c.in-Some.place 0 - 1) c.in-Some.ensures.0 (omega arith) c.in-Some.ensures.1
