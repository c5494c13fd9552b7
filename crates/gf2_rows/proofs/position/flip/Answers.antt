use Rattle.gf2_rows.proofs.Words.{flipped}
use Rattle.gf2_rows.proofs.position.flip.Goals as goal

pub returns : goal.returns
returns c = flipped c.args.row.now c.args.k c.requires
