use Rattle.std.proofs.Common.{sym, ap, ◌∙◌, subst, None, Err}
use Rattle.std.proofs.lemmas.Result.{err_from_is_err_and}
use Rattle.cx_desk.specs.declared.desk.Slot.TheVariants as slot
use Rattle.solve_cli.proofs.Acting.{acts_then, acts_as}
use Rattle.solve_cli.proofs.FormulaTexts.{opened_ready, opened_acts, asking_acts}
use Rattle.solve_cli.proofs.Works.{formula_failed, start_failed, formula_read, formula_call, second_call}
use Rattle.solve_cli.specs.Seen.{Seen, seen, asks}
use Rattle.solve_cli.specs.Steps.{Acts, LoadsFormula}
use Rattle.solve_cli.proofs.load.begin.Goals as goal

pub start_slot-requires : goal.start_slot-requires
start_slot-requires g c = record {
  unasked = ap (λ (s : Seen). s.asked.second) (c.in_ok-formula.ensures.reads.did None tt).1.0 ∙ c.requires.fresh.second;
}

pub returns-in_err-formula-clause-loads : goal.returns-in_err-formula-clause-loads
returns-in_err-formula-clause-loads g c = λ p is_formula is_second.
    let o = g.D.Desk.outside c.args.desk.now in
    let n = g.D.Desk.outside c.read_formula_of.new.desk in
    let is = err_from_is_err_and c.from_residual.result c.from_residual.ensures.1 in
    subst (λ r. Acts c.args.limit o n (λ w. LoadsFormula p c.args.limit (seen w o) r (seen w n))) (sym (is.1 ∙ ap Err is.2))
    (acts_as c.in_err-formula.ensures.reads (λ w h. formula_failed p c.args.names.formula c.args.limit (seen w o) c.in_err-formula.field-0.0 (seen w n) is_formula h))

pub returns-in_err-start_slot-clause-loads : goal.returns-in_err-start_slot-clause-loads
returns-in_err-start_slot-clause-loads g c = λ p is_formula is_second.
    let o = g.D.Desk.outside c.args.desk.now in
    let m = g.D.Desk.outside c.read_formula_of.new.desk in
    let n = g.D.Desk.outside c.start_slot.new.desk in
    let f = c.in_ok-formula.formula in
    let e = c.in_err-start_slot.field-0.0 in
    let unasked = ap (λ (s : Seen). s.asked.second) (c.in_ok-formula.ensures.reads.did None tt).1.0 ∙ c.requires.fresh.second in
    let is = err_from_is_err_and c.from_residual-in_err-start_slot.result c.from_residual-in_err-start_slot.ensures.1 in
    subst (λ r. Acts c.args.limit o n (λ w. LoadsFormula p c.args.limit (seen w o) r (seen w n))) (sym (is.1 ∙ ap Err is.2))
    (acts_then c.in_ok-formula.ensures.reads (asking_acts c.args.limit slot.Second c.args.names.second m e n unasked c.in_err-start_slot.ensures)
    (λ w r h. start_failed p c.args.names.second c.args.limit (seen w o) (seen w m) f e (seen w n) is_second
    (r.0 ∙ formula_call p c.args.names.formula (seen w o) is_formula) (formula_read p c.args.names.formula c.args.limit (seen w o) f is_formula r.1) h))

pub returns-clause-ready : goal.returns-clause-ready
returns-clause-ready g c = opened_ready slot.Second c.args.names.second (g.D.Desk.outside c.read_formula_of.new.desk) (g.D.Desk.outside c.start_slot.new.desk) c.in_ok-start_slot.ensures

pub returns-clause-loads : goal.returns-clause-loads
returns-clause-loads g c = λ p is_formula is_second.
    let o = g.D.Desk.outside c.args.desk.now in
    let m = g.D.Desk.outside c.read_formula_of.new.desk in
    let n = g.D.Desk.outside c.start_slot.new.desk in
    let f = c.in_ok-formula.formula in
    let unasked = ap (λ (s : Seen). s.asked.second) (c.in_ok-formula.ensures.reads.did None tt).1.0 ∙ c.requires.fresh.second in
    acts_then c.in_ok-formula.ensures.reads (opened_acts c.args.limit slot.Second c.args.names.second m n unasked c.in_ok-start_slot.ensures) (λ w r s. (
      s ∙ (ap (asks slot.Second c.args.names.second) (r.0 ∙ formula_call p c.args.names.formula (seen w o) is_formula) ∙ second_call p c.args.names.second (seen w o) is_second),
      formula_read p c.args.names.formula c.args.limit (seen w o) f is_formula r.1,
    ))
