use Rattle.std.proofs.Common.{◌≤◌, subst}
use Rattle.gf2_matrix.proofs.Steps.{nearer, column_step_fits}
use Rattle.gauss_incremental.proofs.gates.width_of.Goals as goal

pub overflow_add-from : goal.overflow_add-from
overflow_add-from c =
    column_step_fits c.in-Some.ensures.1 (subst (λ n. n ≤ c.args.matrix.now.vars) c.columns-columns.ensures.count c.columns-columns.ensures.few) c.columns-columns.ensures.small

pub loop-column-smaller : goal.loop-column-smaller
loop-column-smaller c = nearer c.in-Some.ensures.0 c.in-Some.ensures.1
