use Rattle.std.proofs.Common.{Ok, Err, rules}
use Rattle.cnfx_reader.specs.FromSlot.{formula_of}
use Rattle.cnfx_reader.proofs.SlotFormulaLaws.{at_first, started_later, told_at_first}
use Rattle.cnfx_reader.proofs.slot_formula.read_formula_from.Goals as goal

pub read_all-requires : goal.read_all-requires
read_all-requires g c =
    let o = g.D.Desk.outside c.args.desk.now in
    let s = c.new-reader.result in
    let read = c.new-reader.ensures o in
    record { started = started_later c.args.slot c.args.limit o s o read c.requires.started; begun = at_first c.args.slot c.args.limit o s read }

pub returns-in_err-vars : goal.returns-in_err-vars
returns-in_err-vars g c =
    let o = g.D.Desk.outside c.args.desk.now in
    let s = c.new-reader.result in
    let failed = told_at_first c.args.slot c.args.limit o s (c.new-reader.ensures o) (Err c.in_err-vars.field-0.0) (g.D.Desk.outside c.read_all.new.desk) c.in_err-vars.ensures.reads in
    search rules

pub returns : goal.returns
returns g c =
    let o = g.D.Desk.outside c.args.desk.now in
    let s = c.new-reader.result in
    rw c.finish.ensures (told_at_first c.args.slot c.args.limit o s (c.new-reader.ensures o) (formula_of (Ok c.in_ok-vars.vars) c.read_all.new.self.builder) (g.D.Desk.outside c.read_all.new.desk) c.in_ok-vars.ensures.reads)
