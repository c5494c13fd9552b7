use Rattle.std.proofs.Common.{◌+◌, ◌<◌, ◌∙◌, nat_lt, length, arith}
use Rattle.cx_base.proofs.Parts.{both_kinds}
use Rattle.solve_cli.proofs.Failing.{has_where_fewer}
use Rattle.solve_cli.proofs.failed.has_assumption.Goals as goal

pub overflow_add-result : goal.overflow_add-result
overflow_add-result c =
    let both = both_kinds c.args.formula.now.constraints in
    let few : length c.args.formula.now.constraints < 1152921504606846976 = c.len-all.ensures.few in
    omega (arith, both, few, c.clause_count.ensures, c.parity_count.ensures)

pub returns : goal.returns
returns c = (λ i. nat_lt (c.clause_count.ensures i + c.parity_count.ensures i) (c.len-all.ensures.len i)) ∙ has_where_fewer c.args.formula.now.constraints
