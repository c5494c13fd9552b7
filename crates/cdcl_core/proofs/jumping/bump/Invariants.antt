use Rattle.std.proofs.Common.{◌≡◌, length}
use Rattle.cdcl_core.proofs.jumping.bump.Given as goal

abbrev pub invariant-loop-var : goal.invariant-loop-var
invariant-loop-var l = (l.order.standing ≡ l.initial.order.standing) × (length l.order.scores ≡ length l.initial.order.scores)
