use Rattle.std.proofs.Common.{◌+◌, ◌≤◌, arith, subst, sym}
use Rattle.gf2_matrix.proofs.Rarest.{IsRarestSoFar, rarest_alone, rarest_first, rarest_of_all, rarest_stays, rarest_taken}
use Rattle.gf2_matrix.proofs.Steps.{column_step_fits, later_still, nearer}
use Rattle.gf2_matrix.proofs.matrix.Matrix.rarest_from.Goals as goal
use Rattle.gf2_matrix.proofs.matrix.Matrix.rarest_from.Goals.{then-rows-fewest, else-rows-fewest}

pub count_with-fewest-requires-clause-column_in : goal.count_with-fewest-requires-clause-column_in
count_with-fewest-requires-clause-column_in c = c.requires.first.0

pub count_with-fewest-requires-clause-has : goal.count_with-fewest-requires-clause-has
count_with-fewest-requires-clause-has c = c.requires.first.2

pub count_with-rows-requires-clause-column_in : goal.count_with-rows-requires-clause-column_in
count_with-rows-requires-clause-column_in c = c.in-Some.ensures.1.0

pub count_with-rows-requires-clause-has : goal.count_with-rows-requires-clause-has
count_with-rows-requires-clause-has c = c.in-Some.ensures.1.2

pub overflow_add-next : goal.overflow_add-next
overflow_add-next c = column_step_fits c.requires.first.0 (subst (λ n. n ≤ c.args.self.now.vars) c.columns-columns.ensures.count c.columns-columns.ensures.few) c.columns-columns.ensures.small

pub overflow_add-next-in-Some : goal.overflow_add-next-in-Some
overflow_add-next-in-Some c =
    column_step_fits c.in-Some.ensures.1.0 (subst (λ n. n ≤ c.args.self.now.vars) c.columns-columns.ensures.count c.columns-columns.ensures.few) c.columns-columns.ensures.small

pub loop-column-init : goal.loop-column-init
loop-column-init c = (omega arith, rarest_first c.args.self.now c.args.mask.now c.args.row c.args.first c.count_with-fewest.result c.requires.first c.count_with-fewest.ensures)

pub loop-column-preserved : goal.loop-column-preserved
loop-column-preserved c =
    let s = c.args.self.now in
    let mask = c.args.mask.now in
    let r = c.args.row in
    let first = c.args.first in
    let l = c.loop-column in
    let column = c.in-Some.column in
    let rows = c.count_with-rows.result in (
      later_still l.invariant.0 c.in-Some.ensures.0,
      elim c.if-rows-fewest.branch [
        | then-rows-fewest w ↦
            subst (λ k. IsRarestSoFar s mask r first (column + 1) k c.if-rows-fewest.fewest) (sym w.rarest-is)
            (subst (λ n. IsRarestSoFar s mask r first (column + 1) column n) (sym w.fewest-is)
            (rarest_taken s mask r first l.next l.rarest l.fewest l.invariant.1 column rows c.in-Some.ensures c.count_with-rows.ensures w.if-rows-fewest.true))
        | else-rows-fewest w ↦
            subst (λ k. IsRarestSoFar s mask r first (column + 1) k c.if-rows-fewest.fewest) (sym w.rarest-is)
            (subst (λ n. IsRarestSoFar s mask r first (column + 1) l.rarest n) (sym w.fewest-is)
            (rarest_stays s mask r first l.next l.rarest l.fewest l.invariant.1 column rows c.in-Some.ensures c.count_with-rows.ensures w.if-rows-fewest.false))
      ],
    )

pub loop-column-smaller : goal.loop-column-smaller
loop-column-smaller c = nearer c.in-Some.ensures.0 c.in-Some.ensures.1.0

pub returns-then-fewest-le1-clause-outside : goal.returns-then-fewest-le1-clause-outside
returns-then-fewest-le1-clause-outside c = c.loop-column.invariant.1.outside

pub returns-then-fewest-le1-clause-rarest : goal.returns-then-fewest-le1-clause-rarest
returns-then-fewest-le1-clause-rarest c =
    let l = c.loop-column in
    rarest_alone c.args.self.now c.args.mask.now c.args.row c.args.first l.next l.rarest l.fewest l.invariant.1 c.requires.row_in c.if-fewest-le1.true

pub returns-clause-outside : goal.returns-clause-outside
returns-clause-outside c = c.loop-column.invariant.1.outside

pub returns-clause-rarest : goal.returns-clause-rarest
returns-clause-rarest c =
    let l = c.loop-column in
    rarest_of_all c.args.self.now c.args.mask.now c.args.row c.args.first l.next l.rarest l.fewest l.invariant.1 c.in_default.ensures
