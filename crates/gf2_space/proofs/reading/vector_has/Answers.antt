use Rattle.std.proofs.Common.{arith}
use Rattle.gf2_space.proofs.Echelons.{owner_in}
use Rattle.gf2_space.proofs.reading.vector_has.Goals as goal

pub has-requires-clause-row_in : goal.has-requires-clause-row_in
has-requires-clause-row_in c =
    owner_in c.args.rows.now c.args.owners.now c.index.result c.requires.owners
    (let i = c.index.ensures.index in let w = c.requires.within in omega arith) c.if-owner-ne0.true
