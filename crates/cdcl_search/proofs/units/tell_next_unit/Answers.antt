use Rattle.std.proofs.Common.{◌≡◌, sym, ap, ◌∙◌, subst, ℕ, List, false, length, arith}
use Rattle.cx_base.specs.Literals.{negate}
use Rattle.cx_base.specs.Problem.{Problem}
use Rattle.cx_base.specs.Assumptions.{assumes}
use Rattle.cx_base.specs.declared.constraint.Constraint.{Constraint}
use Rattle.cx_trail.specs.declared.entry.Entry.{Entry}
use Rattle.std.proofs.lemmas.Result.{err_from_is_err_and}
use Rattle.cx_trail.specs.Sequence.{entry_at}
use Rattle.cdcl_search.specs.Ties.{SearchStands}
use Rattle.cdcl_search.specs.GoingOn.{log_then}
use Rattle.cdcl_search.proofs.units.tell_next_unit.Goals as goal

pub clause_of_reason-requires-clause-ready : goal.clause_of_reason-requires-clause-ready
clause_of_reason-requires-clause-ready g c = record {
  stands = subst (λ rows. SearchStands c.args.log.now.formula.now c.args.state.now (g.P.ParityEngine.state c.args.engine.now) rows (g.L.Sink.items c.args.log.now.sink.now)) (sym c.new-rows.ensures) c.requires.stands;
  going = c.requires.going;
  room = let none = ap length c.new-rows.ensures in omega (arith, none);
}

here : (entries : List Entry) (units len : ℕ) (entry : Entry) (constraints : List Constraint) → units ≡ len → entry ≡ entry_at entries len → assumes constraints (negate (entry_at entries units).literal) ≡ false → assumes constraints (negate entry.literal) ≡ false
here entries units len entry constraints same is apart = ap (λ (x : Entry). assumes constraints (negate x.literal)) (is ∙ ap (entry_at entries) (sym same)) ∙ apart

pub clause_of_reason-requires-clause-apart : goal.clause_of_reason-requires-clause-apart
clause_of_reason-requires-clause-apart g c =
    let long = c.len.ensures in
    let same = c.args.state.now.units.ok in
    λ row is. here c.args.state.now.trail.entries (length c.args.state.now.units.items) c.len.result c.entry-entry.result c.args.log.now.formula.now.constraints (omega (arith, long, same)) c.entry-entry.ensures.is c.requires.apart

pub tell_unit-requires-clause-apart : goal.tell_unit-requires-clause-apart
tell_unit-requires-clause-apart g c =
    let long = c.len.ensures in
    let same = c.args.state.now.units.ok in
    subst (λ (f : Problem). assumes f.constraints (negate c.entry-entry.result.literal) ≡ false) (sym c.in_ok-implying.ensures.stands_on.log.formula)
    (here c.args.state.now.trail.entries (length c.args.state.now.units.items) c.len.result c.entry-entry.result c.args.log.now.formula.now.constraints (omega (arith, long, same)) c.entry-entry.ensures.is c.requires.apart)

pub tell_unit-requires-clause-stands : goal.tell_unit-requires-clause-stands
tell_unit-requires-clause-stands g c =
    c.in_ok-implying.ensures.stands_on.stands

pub tell_unit-requires-clause-next : goal.tell_unit-requires-clause-next
tell_unit-requires-clause-next g c =
    let long = c.len.ensures in
    let same = c.args.state.now.units.ok in
    let at : length c.args.state.now.units.items ≡ c.len.result = omega (arith, long, same) in
    record {
      next = (c.requires.more, ap (λ x. x.literal) (ap (entry_at c.args.state.now.trail.entries) at ∙ sym c.entry-entry.ensures.is));
      sourced = c.in_ok-implying.ensures.clause.sourced;
      implied = c.in_ok-implying.ensures.clause.implied;
      id = c.in_ok-implying.ensures.clause.id;
    }

pub tell_unit-requires-clause-going : goal.tell_unit-requires-clause-going
tell_unit-requires-clause-going g c = c.in_ok-implying.ensures.stands_on.log.failed ∙ c.requires.going

pub delete_rows-requires-clause-going : goal.delete_rows-requires-clause-going
delete_rows-requires-clause-going g c = c.in_ok-tell_unit.ensures.to_delete.log.failed ∙ c.in_ok-implying.ensures.stands_on.log.failed ∙ c.requires.going

pub delete_rows-requires-clause-stands : goal.delete_rows-requires-clause-stands
delete_rows-requires-clause-stands g c =
    c.in_ok-tell_unit.ensures.to_delete.stands

pub delete_rows-requires-clause-few : goal.delete_rows-requires-clause-few
delete_rows-requires-clause-few g c =
    let one = c.in_ok-implying.ensures.one in
    let none = ap length c.new-rows.ensures in
    omega (arith, one, none)

pub returns-in_err-implying-clause-stands_on : goal.returns-in_err-implying-clause-stands_on
returns-in_err-implying-clause-stands_on g c =
    let fault = err_from_is_err_and c.from_residual.result c.from_residual.ensures.1 in
    rw (fault.1, fault.2) (record { stands = tt; log = c.in_err-implying.ensures.stands_on.log })

pub returns-in_err-tell_unit-clause-stands_on : goal.returns-in_err-tell_unit-clause-stands_on
returns-in_err-tell_unit-clause-stands_on g c =
    let fault = err_from_is_err_and c.from_residual-in_err-tell_unit.result c.from_residual-in_err-tell_unit.ensures.1 in
    rw (fault.1, fault.2) (record { stands = tt; log = log_then g.L.Sink g.met.L.Sink.keeps_on _ c.clause_of_reason.new.log _ _ c.in_ok-implying.ensures.stands_on.log c.in_err-tell_unit.ensures.to_delete.log })

pub returns-clause-stands_on : goal.returns-clause-stands_on
returns-clause-stands_on g c = record {
  stands = c.delete_rows.ensures.stands;
  log = log_then g.L.Sink g.met.L.Sink.keeps_on _ c.tell_unit.new.log _ _ (log_then g.L.Sink g.met.L.Sink.keeps_on _ c.clause_of_reason.new.log _ _ c.in_ok-implying.ensures.stands_on.log c.in_ok-tell_unit.ensures.to_delete.log) c.delete_rows.ensures.log;
}
