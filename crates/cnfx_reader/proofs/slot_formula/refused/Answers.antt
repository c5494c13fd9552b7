use Rattle.std.proofs.Common.{sym, ap, ◌∙◌, subst, ◌-◌}
use Rattle.cx_desk.specs.Calls.{DrainFails}
use Rattle.cx_desk.specs.SlotBytes.{BytesState, RestRead, taken_by}
use Rattle.cnfx_reader.specs.FromSlot.{FromFails}
use Rattle.cnfx_reader.specs.declared.from_refusal.FromRefusal.{FromRefusal}
use Rattle.cnfx_reader.proofs.SlotFormulaLaws.{passed_rest, passed_stops, passed_ended, refused_whole, rest_stops}
use Rattle.cnfx_reader.proofs.slot_formula.refused.Goals as goal

pub returns-in-Ok : goal.returns-in-Ok
returns-in-Ok g c = λ slot limit o s t h i b.
    let old = g.D.Desk.outside c.args.desk.now in
    let new = g.D.Desk.outside c.read_rest.new.desk in
    let len = c.in-Ok.field-0 in
    let rest = passed_rest s.bytes t.bytes i.passed old len new (subst (λ (x : BytesState). RestRead x old len new) (sym b) c.in-Ok.ensures) in
    subst (λ (e : FromRefusal). FromFails slot limit o e new) (sym c.from.ensures) (refused_whole slot limit o s old h len new rest c.args.refusal (i.why len rest.got.bytes))

pub returns-in-Err : goal.returns-in-Err
returns-in-Err g c = λ slot limit o s t h i b.
    let old = g.D.Desk.outside c.args.desk.now in
    let new = g.D.Desk.outside c.read_rest.new.desk in
    let err = c.in-Err.err in
    let still = sym (passed_ended s.bytes t.bytes i.passed) ∙ ap (λ (x : BytesState). x.ended) b ∙ c.in-Err.ensures.0 in
    let here = passed_stops s.bytes t.bytes i.passed old err new (subst (λ (x : BytesState). DrainFails x.slot (x.limit - taken_by x) old err new) (sym b) c.in-Err.ensures.1) in
    subst (λ (e : FromRefusal). FromFails slot limit o e new) (sym c.from-in-Err.ensures) (rest_stops slot limit o s old h err new still here)
