use Rattle.std.proofs.Common.{subst}
use Rattle.cx_desk.specs.Outside.{Bytes}
use Rattle.cx_desk.specs.Calls.{PutsAll}
use Rattle.log_text.proofs.Lines.{mark_line}
use Rattle.log_text.proofs.print.put_mark.Goals as goal

pub returns : goal.returns
returns g c =
    let old = g.D.Desk.outside c.args.desk.now in
    let new = g.D.Desk.outside c.put_id.new.desk in
    subst (λ (t : Bytes). PutsAll c.args.port t old c.put_id.result new) (mark_line c.args.k) c.put_id.ensures
