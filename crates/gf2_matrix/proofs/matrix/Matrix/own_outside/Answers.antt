use Rattle.std.proofs.Common.{◌≤◌, refl, subst, arith}
use Rattle.gf2_matrix.proofs.Steps.{before_still, later_still, nearer, column_step_fits}
use Rattle.gf2_matrix.proofs.Outside.{shared_before, shared_more, shared_all}
use Rattle.gf2_matrix.proofs.matrix.Matrix.own_outside.Goals as goal

pub is_alone-requires-clause-column_in : goal.is_alone-requires-clause-column_in
is_alone-requires-clause-column_in c = c.in-Some.ensures.1.0

pub is_alone-requires-clause-has : goal.is_alone-requires-clause-has
is_alone-requires-clause-has c = c.in-Some.ensures.1.2

pub loop-column-init : goal.loop-column-init
loop-column-init c = (omega arith, λ k ge lt. absurd (omega arith))

pub loop-column-preserved : goal.loop-column-preserved
loop-column-preserved c = (
  later_still c.loop-column.invariant.0 c.in-Some.ensures.0,
  shared_more c.args.self.now c.args.mask.now c.args.row c.args.from c.loop-column.next c.loop-column.invariant.1 c.in-Some.column c.in-Some.ensures (c.if-is_alone.ensures.shared refl),
)

pub loop-column-smaller : goal.loop-column-smaller
loop-column-smaller c = nearer c.in-Some.ensures.0 c.in-Some.ensures.1.0

pub overflow_add-next : goal.overflow_add-next
overflow_add-next c = column_step_fits c.in-Some.ensures.1.0 (subst (λ n. n ≤ c.args.self.now.vars) c.columns-columns.ensures.count c.columns-columns.ensures.few) c.columns-columns.ensures.small

pub returns-clause-none : goal.returns-clause-none
returns-clause-none c = λ k ge lt out. shared_all c.args.self.now c.args.mask.now c.args.row c.args.from c.loop-column.next c.loop-column.invariant.1 c.in_default.ensures k ge out

pub returns-then-column-to-clause-none : goal.returns-then-column-to-clause-none
returns-then-column-to-clause-none c = λ k ge lt out.
    shared_before c.args.self.now c.args.mask.now c.args.row c.args.from c.loop-column.next c.loop-column.invariant.1 c.in-Some.column c.in-Some.ensures k ge (before_still lt c.if-column-to.true) out

pub returns-then-is_alone-clause-own : goal.returns-then-is_alone-clause-own
returns-then-is_alone-clause-own c = (c.in-Some.ensures.1, c.if-is_alone.ensures.alone refl)
