use Rattle.std.proofs.Common.{◌≡◌, ◌∙◌, sym, ap, subst, true}
use Rattle.cx_base.specs.Assumptions.{is_ending}
use Rattle.cdcl_core.specs.Refuting.{HasRowBeside, IsFirst}
use Rattle.cdcl_core.proofs.BesideLaws.{some_differs, sum_goes_on_ok, sum_variables_ok}
use Rattle.cdcl_core.proofs.ending_rows.LevelZero.going_on.Goals as goal

pub sum_of_reasons-requires-clause-some : goal.sum_of_reasons-requires-clause-some
sum_of_reasons-requires-clause-some g c =
    let ends : is_ending c.args.self.now.formula.now.constraints c.args.reason.clause ≡ true = ap (is_ending c.args.self.now.formula.now.constraints) (sym c.as_slice-clause.ensures) ∙ sym c.is_ending.ensures ∙ c.if-not-is_ending.false in
    some_differs c.args.self.now.formula.now.constraints c.requires.apart c.args.self.now.state.now (g.P.ParityEngine.state c.args.self.now.engine.now) c.requires.sound c.in-Some.row (subst (IsFirst c.args.self.now.formula.now.constraints c.args.self.now.state.now (g.P.ParityEngine.state c.args.self.now.engine.now)) c.in-Some.is c.requires.first)
    c.args.implied (subst (HasRowBeside c.args.implied) c.in-Some.is (c.requires.beside ends)) c.args.reason c.requires.reason ends

pub returns-clause-goes_on : goal.returns-clause-goes_on
returns-clause-goes_on g c =
    let ends : is_ending c.args.self.now.formula.now.constraints c.args.reason.clause ≡ true = ap (is_ending c.args.self.now.formula.now.constraints) (sym c.as_slice-clause.ensures) ∙ sym c.is_ending.ensures ∙ c.if-not-is_ending.false in
    sum_goes_on_ok c.args.self.now.formula.now.constraints c.requires.apart c.args.self.now.state.now (g.P.ParityEngine.state c.args.self.now.engine.now) c.requires.sound c.in-Some.row (subst (IsFirst c.args.self.now.formula.now.constraints c.args.self.now.state.now (g.P.ParityEngine.state c.args.self.now.engine.now)) c.in-Some.is c.requires.first)
    c.args.implied (subst (HasRowBeside c.args.implied) c.in-Some.is (c.requires.beside ends)) c.args.reason c.requires.reason ends c.sum_of_reasons.result c.sum_of_reasons.ensures.reason c.sum_of_reasons.ensures.variables

pub returns-clause-variables : goal.returns-clause-variables
returns-clause-variables g c =
    let ends : is_ending c.args.self.now.formula.now.constraints c.args.reason.clause ≡ true = ap (is_ending c.args.self.now.formula.now.constraints) (sym c.as_slice-clause.ensures) ∙ sym c.is_ending.ensures ∙ c.if-not-is_ending.false in
    sum_variables_ok c.args.self.now.formula.now.constraints c.args.reason.clause c.args.first.now c.in-Some.row c.in-Some.is ends c.sum_of_reasons.result c.sum_of_reasons.ensures.variables

pub returns-then-not-is_ending-clause-reason : goal.returns-then-not-is_ending-clause-reason
returns-then-not-is_ending-clause-reason g c = c.requires.reason

pub sum_of_reasons-requires-clause-one : goal.sum_of_reasons-requires-clause-one
sum_of_reasons-requires-clause-one g c = c.requires.reason

pub returns-clause-reason : goal.returns-clause-reason
returns-clause-reason g c = c.sum_of_reasons.ensures.reason
