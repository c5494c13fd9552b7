use Rattle.std.proofs.Common.{refl, ◌++◌}
use Rattle.cnfx_reader.specs.PrintedFormula.{literals_text}
use Rattle.cnfx_reader.proofs.Puts.{two_puts}
use Rattle.cnfx_reader.proofs.printing.put_line.Goals as goal

pub returns : goal.returns
returns g c =
    let old = g.D.Desk.outside c.args.desk.now in
    let mid = g.D.Desk.outside c.put_all.new.desk in
    let new = g.D.Desk.outside c.put_literals.new.desk in
    two_puts c.args.port c.args.front.now (literals_text c.args.lits.now) (c.args.front.now ++ literals_text c.args.lits.now) old mid new c.put_literals.result refl c.in_ok-put_all.ensures c.put_literals.ensures
