use Rattle.gf2_lists.proofs.MadeLaws.{row_made}
use Rattle.gf2_lists.proofs.making.row_of.Goals as goal

pub returns : goal.returns
returns c = row_made c.args.lits.now c.fill_rising.new.numbers.items c.right_side-right.result c.in_ok-fill_rising.ensures c.right_side-right.ensures
