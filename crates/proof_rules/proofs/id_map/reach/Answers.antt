use Rattle.std.proofs.Common.{arith}
use Rattle.proof_rules.proofs.PageLaws.{place_reached}
use Rattle.proof_rules.proofs.id_map.reach.Goals as goal

pub returns-then-page-len-clause-reached : goal.returns-then-page-len-clause-reached
returns-then-page-len-clause-reached g c =
    let less = c.if-page-len.true in
    let counted = c.len.ensures in
    place_reached c.args.near.now.items c.args.id (grind (arith, less, counted))
