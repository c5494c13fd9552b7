use Rattle.std.proofs.Common.{arith}
use Rattle.gf2_space.proofs.Echelons.{owner_in}
use Rattle.gf2_space.proofs.reading.point_value.Goals as goal

pub row_right-requires : goal.row_right-requires
row_right-requires c =
    owner_in c.args.rows.now c.args.owners.now c.index.result c.requires.owners
    (let i = c.index.ensures.index in let w = c.requires.within in omega arith) c.if-owner-ne0.true
