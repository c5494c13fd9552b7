use Rattle.std.proofs.Common.{◌≤◌, length, arith}
use Rattle.proof_trim.proofs.IdLaws.{far_in}
use Rattle.proof_trim.proofs.SetLaws.{when_ok}
use Rattle.proof_trim.proofs.ids.IdSet.insert.Goals as goal

pub returns-else-id-len : goal.returns-else-id-len
returns-else-id-len c =
    let ids = c.args.self.now in
    let past : length ids.near.items ≤ c.args.id = omega (arith, c.if-id-len.false, c.len.ensures, ids.near.ok.0) in
    when_ok c.insert.result _ _ (λ is. far_in ids.near.items ids.far c.insert.new.self c.args.id past _ is) c.insert.ensures.ok
