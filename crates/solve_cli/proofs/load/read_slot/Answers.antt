use Rattle.solve_cli.proofs.FormulaTexts.{slot_read, slot_failed}
use Rattle.solve_cli.proofs.load.read_slot.Goals as goal

pub returns-in-Ok : goal.returns-in-Ok
returns-in-Ok g c = λ name ready.
    slot_read c.args.slot name c.args.limit (g.D.Desk.outside c.args.desk.now) (g.D.Desk.outside c.read_whole.new.desk) ready c.in-Ok.text c.in-Ok.ensures

pub returns-in-Err : goal.returns-in-Err
returns-in-Err g c = λ name ready.
    rw c.unread.ensures
    (slot_failed c.args.slot name c.args.limit (g.D.Desk.outside c.args.desk.now) (g.D.Desk.outside c.read_whole.new.desk) ready c.in-Err.why c.in-Err.ensures)
