use Rattle.std.proofs.Common.{◌≤◌, length, arith}
use Rattle.proof_trim.proofs.IdLaws.{far_out}
use Rattle.proof_trim.proofs.ids.IdSet.remove.Goals as goal

pub returns-else-id-len : goal.returns-else-id-len
returns-else-id-len c =
    let ids = c.args.self.now in
    let past : length ids.near.items ≤ c.args.id = omega (arith, c.if-id-len.false, c.len.ensures, ids.near.ok.0) in
    far_out ids.near.items ids.far c.remove.new.self c.args.id past c.remove.ensures
