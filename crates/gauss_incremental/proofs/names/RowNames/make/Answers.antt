use Rattle.gauss_incremental.proofs.Stacks.{names_fresh}
use Rattle.gauss_incremental.proofs.names.RowNames.make.Goals as goal

pub invariant_of-result : goal.invariant_of-result
invariant_of-result c = names_fresh c.in_ok-order.order.items c.in_ok-named.named.items c.args.rows c.in_ok-order.ensures c.in_ok-named.ensures
