use Rattle.std.proofs.Common.{◌<◌, ◌+◌, ◌-◌, map, arith}
use Rattle.cx_base.specs.Problem.{clauses_of}
use Rattle.xor_recover.specs.Entries.{row_of}
use Rattle.xor_recover.specs.Wholes.{count_of}
use Rattle.xor_recover.proofs.StartRows.{read_at}
use Rattle.xor_recover.proofs.WholeRows.{number_rows_more, whole_inside}
use Rattle.xor_recover.proofs.gathering.Room.add_whole.Goals as goal

pub overflow_add-number : goal.overflow_add-number
overflow_add-number c =
    let count = c.count-count.ensures in
    let len = c.clause_count-clauses.ensures in
    let lt : c.loop-index.index < count_of c.args.whole.now = omega arith in
    let high = (whole_inside (clauses_of c.args.formula.now.constraints) c.args.whole.now c.loop-index.index c.requires lt).1 in
    omega (arith, high, len)

pub clause-requires-clause-high : goal.clause-requires-clause-high
clause-requires-clause-high c =
    let count = c.count-count.ensures in
    let lt : c.loop-index.index < count_of c.args.whole.now = omega arith in
    (whole_inside (clauses_of c.args.formula.now.constraints) c.args.whole.now c.loop-index.index c.requires lt).1

pub loop-index-preserved : goal.loop-index-preserved
loop-index-preserved c =
    let C = clauses_of c.args.formula.now.constraints in
    let s = c.args.whole.now.start in
    let k = c.loop-index.index in
    let read = read_at C (s.number + k - 1) c.clause.result.now c.clause.ensures.clause in
    number_rows_more C s s.number k c.clause.result.now (map row_of c.args.self.now.entries.items) (map row_of c.loop-index.self.entries.items) (map row_of c.add.new.self.entries.items) read c.loop-index.invariant c.in_ok-add.ensures
