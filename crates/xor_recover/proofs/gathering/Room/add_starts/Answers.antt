use Rattle.std.proofs.Common.{get_or}
use Rattle.cx_base.specs.Problem.{clauses_of}
use Rattle.xor_recover.specs.declared.starts.Start.{Start}
use Rattle.xor_recover.proofs.StartRows.{read_at, rows_more}
use Rattle.xor_recover.proofs.Grouping.{at_any}
use Rattle.xor_recover.proofs.gathering.Room.add_starts.Goals as goal

pub loop-start-preserved : goal.loop-start-preserved
loop-start-preserved c =
    let C = clauses_of c.args.formula.now.constraints in
    let run = c.args.run.now in
    let k = c.loop-start.start-index in
    let s : Start = get_or run k (record { first = 0; second = 0; number = 0 }) in
    rows_more C run k s c.clause.result.now _ _ _ c.loop-start-test.true (at_any run k _ s c.loop-start-test.true) (read_at C _ c.clause.result.now c.clause.ensures.clause) c.loop-start.invariant c.in_ok-add.ensures
