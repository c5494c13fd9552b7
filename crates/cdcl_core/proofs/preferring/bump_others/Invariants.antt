use Rattle.std.proofs.Common.{◌≡◌, length}
use Rattle.cdcl_core.proofs.preferring.bump_others.Given as goal

abbrev pub invariant-loop-index : goal.invariant-loop-index
invariant-loop-index l = (l.order.standing ≡ l.initial.order.standing) × (length l.order.scores ≡ length l.initial.order.scores)
