use Rattle.std.proofs.Common.{◌≡◌, ◌≤◌, ◌<◌, ◌∙◌, true, length, refl, subst, sym, inl, inr, arith}
use Rattle.gf2_matrix.specs.Content.{has, row_at}
use Rattle.gauss_jordan.specs.Right.{column_at}
use Rattle.gf2_matrix.proofs.BitLaws.{column_of_bit}
use Rattle.gf2_matrix.proofs.Steps.{nearer, column_step_fits}
use Rattle.gauss_incremental.proofs.Latest.{last_further, last_in}
use Rattle.gauss_incremental.proofs.watching.Levels.last_assigned.Goals as goal
use Rattle.gauss_incremental.proofs.watching.Levels.last_assigned.Goals.{In-Some}

column_in : (c : In-Some) → c.in-Some.column < length c.args.self.now.matrix.now.columns
column_in c = column_of_bit c.row_bits-bits.ensures c.in-Some.column c.in-Some.ensures.1

column_there : (c : In-Some) → has (row_at c.args.self.now.matrix.now.rows c.args.row) (column_at c.args.self.now.matrix.now.columns c.in-Some.column) ≡ true
column_there c = sym (c.row_bits-bits.ensures.bits c.in-Some.column (column_in c)) ∙ c.in-Some.ensures.1

pub loop-next-init : goal.loop-next-init
loop-next-init c = λ k lt other. absurd (omega arith)

pub is_at-requires-clause-column_in : goal.is_at-requires-clause-column_in
is_at-requires-clause-column_in c = column_in (goal.at.is_at-requires-clause-column_in c).In-Some

pub returns-then-is_at : goal.returns-then-is_at
returns-then-is_at c =
    let at = c.is_at.ensures c.if-is_at.true in
    let s = (goal.at.returns-then-is_at c).In-Some in
    inl (c.in-Some.column, refl, (column_in s, column_there s, at.0), at.1)

pub later_of-best-requires-clause-next_in : goal.later_of-best-requires-clause-next_in
later_of-best-requires-clause-next_in c = column_in (goal.at.later_of-best-requires-clause-next_in c).In-Some

pub later_of-best-requires-clause-best_in : goal.later_of-best-requires-clause-best_in
later_of-best-requires-clause-best_in c =
    last_in c.args.self.now.matrix.now c.args.self.now.held.now c.args.row c.args.basic c.loop-next.next c.loop-next.best c.loop-next.invariant

pub overflow_add-next : goal.overflow_add-next
overflow_add-next c =
    column_step_fits (column_in (goal.at.overflow_add-next c).In-Some) (subst (λ n. n ≤ c.args.self.now.matrix.now.vars) c.columns-columns.ensures.count c.columns-columns.ensures.few)
    c.columns-columns.ensures.small

pub loop-next-preserved : goal.loop-next-preserved
loop-next-preserved c =
    let s = (goal.at.loop-next-preserved c).In-Some in
    let lt = column_in s in
    c.later_of-best.ensures c.args.row (column_there s)
    (last_further c.args.self.now.matrix.now c.args.self.now.held.now c.args.row c.args.basic c.loop-next.next c.in-Some.column c.loop-next.best c.loop-next.invariant
    (λ j ge before. sym (c.row_bits-bits.ensures.bits j (omega arith)) ∙ c.in-Some.ensures.2 j ge before))

pub loop-next-smaller : goal.loop-next-smaller
loop-next-smaller c = nearer c.in-Some.ensures.0 (column_in (goal.at.loop-next-smaller c).In-Some)

pub returns : goal.returns
returns c =
    inr (last_further c.args.self.now.matrix.now c.args.self.now.held.now c.args.row c.args.basic c.loop-next.next (length c.args.self.now.matrix.now.columns) c.loop-next.best c.loop-next.invariant
    (λ j ge lt. sym (c.row_bits-bits.ensures.bits j lt) ∙ c.in_default.ensures j ge))
