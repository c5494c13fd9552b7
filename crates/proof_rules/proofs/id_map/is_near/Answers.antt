use Rattle.proof_rules.proofs.PageLaws.{places_past}
use Rattle.proof_rules.proofs.id_map.is_near.Goals as goal

pub returns-else-id-near : goal.returns-else-id-near
returns-else-id-near g c h = places_past c.args.near.now c.args.id c.if-id-near.false
