use Rattle.std.proofs.Common.{◌≤◌, length, arith, sym, ap, ◌∙◌, subst, Err}
use Rattle.std.proofs.lemmas.Result.{err_from_is_err_and}
use Rattle.cx_desk.specs.declared.desk.Slot.TheVariants as slot
use Rattle.solve_cli.specs.Seen.{seen}
use Rattle.solve_cli.specs.Steps.{Acts, ReadsFormula}
use Rattle.solve_cli.proofs.Acting.{acts_then, acts_as}
use Rattle.solve_cli.proofs.FormulaTexts.{opened_ready, opened_acts, asking_acts, formula_not_started, formula_fails, formula_reads}
use Rattle.solve_cli.proofs.FewConstraints.{few_constraints}
use Rattle.solve_cli.proofs.load.read_formula_of.Goals as goal

pub returns-in_err-start_slot-clause-reads : goal.returns-in_err-start_slot-clause-reads
returns-in_err-start_slot-clause-reads g c =
    let o = g.D.Desk.outside c.args.desk.now in
    let n = g.D.Desk.outside c.start_slot.new.desk in
    let is = err_from_is_err_and c.from_residual.result c.from_residual.ensures.1 in
    subst (λ r. Acts c.args.limit o n (λ w. ReadsFormula c.args.name c.args.limit (seen w o) r (seen w n))) (sym (is.1 ∙ ap Err is.2))
    (acts_as (asking_acts c.args.limit slot.Formula c.args.name o c.in_err-start_slot.field-0.0 n c.requires.unasked c.in_err-start_slot.ensures)
    (λ w h. formula_not_started c.args.name c.args.limit (seen w o) c.in_err-start_slot.field-0.0 (seen w n) h))

pub returns-in-Ok-clause-reads : goal.returns-in-Ok-clause-reads
returns-in-Ok-clause-reads g c =
    let old = g.D.Desk.outside c.args.desk.now in
    let o = g.D.Desk.outside c.start_slot.new.desk in
    let n = g.D.Desk.outside c.read_formula_from.new.desk in
    let is = c.in_ok-start_slot.ensures in
    let read = c.in-Ok.ensures in
    acts_then (opened_acts c.args.limit slot.Formula c.args.name old o c.requires.unasked is)
    (formula_reads c.args.name c.args.limit o n (opened_ready slot.Formula c.args.name old o is) old is c.in-Ok.formula read.0 read.1 read.2) (λ w asked r. r)

pub returns-in-Err-clause-reads : goal.returns-in-Err-clause-reads
returns-in-Err-clause-reads g c =
    let old = g.D.Desk.outside c.args.desk.now in
    let o = g.D.Desk.outside c.start_slot.new.desk in
    let n = g.D.Desk.outside c.read_formula_from.new.desk in
    let is = c.in_ok-start_slot.ensures in
    rw c.refused.ensures
    (acts_then (opened_acts c.args.limit slot.Formula c.args.name old o c.requires.unasked is)
    (formula_fails c.args.name c.args.limit o n (opened_ready slot.Formula c.args.name old o is) old is c.in-Err.why c.in-Err.ensures) (λ w asked r. r))

pub returns-in-Ok-clause-few : goal.returns-in-Ok-clause-few
returns-in-Ok-clause-few g c =
    let read = c.in-Ok.ensures in
    let fits : length read.0 ≤ c.args.limit = read.1.fits in
    let few : length c.in-Ok.formula.constraints ≤ length read.0 = few_constraints read.0 c.in-Ok.formula read.2 in
    omega (arith, fits, few)
