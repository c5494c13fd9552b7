use Rattle.std.proofs.Common.{◌∙◌}
use Rattle.search_policy.proofs.BumpLaws.{one_time}
use Rattle.search_policy.proofs.order.Order.bump.Goals as goal

pub returns : goal.returns
returns c = c.bump_by.ensures.bumped ∙ one_time _ _
