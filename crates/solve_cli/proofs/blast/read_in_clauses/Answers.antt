use Rattle.std.proofs.Common.{refl, sym, ap, ◌∙◌, subst, Err}
use Rattle.std.proofs.lemmas.Result.{err_from_is_err_and}
use Rattle.cx_words.specs.declared.plans.Plan.TheVariants as plan
use Rattle.solve_cli.specs.Seen.{seen}
use Rattle.solve_cli.specs.Steps.{Acts, ReadsInClauses}
use Rattle.solve_cli.proofs.Acting.{acts_as}
use Rattle.solve_cli.proofs.Blasting.{made_or_failed}
use Rattle.solve_cli.proofs.Works.{formula_failed}
use Rattle.solve_cli.proofs.blast.read_in_clauses.Goals as goal

pub returns-in_err-formula : goal.returns-in_err-formula
returns-in_err-formula g c = λ out.
    let o = g.D.Desk.outside c.args.desk.now in
    let n = g.D.Desk.outside c.read_formula_of.new.desk in
    let is = err_from_is_err_and c.from_residual.result c.from_residual.ensures.1 in
    subst (λ r. Acts c.args.limit o n (λ w. ReadsInClauses c.args.formula out c.args.limit (seen w o) r (seen w n))) (sym (is.1 ∙ ap Err is.2))
    (acts_as c.in_err-formula.ensures.reads (λ w h. formula_failed (plan.Blast c.args.formula out) c.args.formula c.args.limit (seen w o) c.in_err-formula.field-0.0 (seen w n) refl h))

pub returns : goal.returns
returns g c = λ out.
    let o = g.D.Desk.outside c.args.desk.now in
    let n = g.D.Desk.outside c.read_formula_of.new.desk in
    acts_as c.in_ok-formula.ensures.reads (λ w r. made_or_failed c.args.formula out c.args.limit (seen w o) c.in_ok-formula.formula r.1 c.in_clauses.result (seen w n) r.0 c.in_clauses.ensures)
