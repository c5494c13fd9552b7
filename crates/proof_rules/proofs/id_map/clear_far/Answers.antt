use Rattle.proof_rules.proofs.PlaceLaws.{nothing_to_take}
use Rattle.proof_rules.proofs.id_map.clear_far.Goals as goal

pub returns-else-not-is_empty : goal.returns-else-not-is_empty
returns-else-not-is_empty g c = nothing_to_take c.args.id c.args.far.now.entries (c.is_empty.ensures.0 c.if-not-is_empty.false)
