use Rattle.std.proofs.Common.{refl, sym, ap, ◌∙◌, subst, None, Err}
use Rattle.std.proofs.lemmas.Result.{err_from_is_err_and}
use Rattle.solve_cli.proofs.Acting.{acts_then}
use Rattle.solve_cli.proofs.FormulaTexts.{file_given, file_refused, ready_still}
use Rattle.solve_cli.proofs.Works.{create_failed, proof_call, second_may_write}
use Rattle.solve_cli.specs.Seen.{Seen, seen}
use Rattle.solve_cli.specs.Commands.{gives_file}
use Rattle.solve_cli.specs.Steps.{Acts, Prepares}
use Rattle.cx_words.specs.declared.plans.Plan.TheVariants as plan
use Rattle.solve_cli.proofs.load.prepare.Goals as goal

pub create_proof-requires : goal.create_proof-requires
create_proof-requires g c = record {
  unasked = let begun = (c.in_ok-formula.ensures.loads (plan.Check c.args.names.formula c.args.names.second) refl refl).did None tt in
      ap (λ (s : Seen). s.asked.proof) begun.1.0 ∙ c.requires.fresh.proof;
}

pub returns-in_err-formula-clause-prepares : goal.returns-in_err-formula-clause-prepares
returns-in_err-formula-clause-prepares g c = λ p is_formula is_second is_proof.
    let o = g.D.Desk.outside c.args.desk.now in
    let n = g.D.Desk.outside c.begin.new.desk in
    let is = err_from_is_err_and c.from_residual.result c.from_residual.ensures.1 in
    subst (λ r. Acts c.args.limit o n (λ w. Prepares p c.args.limit (seen w o) r (seen w n))) (sym (is.1 ∙ ap Err is.2)) (c.in_err-formula.ensures.loads p is_formula is_second)

pub returns-in_err-create_proof-clause-prepares : goal.returns-in_err-create_proof-clause-prepares
returns-in_err-create_proof-clause-prepares g c = λ p is_formula is_second is_proof.
    let o = g.D.Desk.outside c.args.desk.now in
    let m = g.D.Desk.outside c.begin.new.desk in
    let n = g.D.Desk.outside c.create_proof.new.desk in
    let e = c.in_err-create_proof.field-0.0 in
    let is = err_from_is_err_and c.from_residual-in_err-create_proof.result c.from_residual-in_err-create_proof.ensures.1 in
    subst (λ r. Acts c.args.limit o n (λ w. Prepares p c.args.limit (seen w o) r (seen w n))) (sym (is.1 ∙ ap Err is.2))
    (acts_then (c.in_ok-formula.ensures.loads p is_formula is_second) (file_refused c.args.limit c.args.proof m e n c.in_err-create_proof.ensures)
    (λ w begun h. create_failed p c.args.proof c.args.limit (seen w o) (seen w m) c.in_ok-formula.formula e (seen w n) is_proof (second_may_write p c.args.names.second c.args.limit (seen w o) is_second) begun.0 begun.1 h))

pub returns-clause-ready : goal.returns-clause-ready
returns-clause-ready g c = ready_still c.args.names.second c.args.proof (g.D.Desk.outside c.begin.new.desk) (g.D.Desk.outside c.create_proof.new.desk) c.in_ok-create_proof.ensures c.in_ok-formula.ensures.ready

pub returns-clause-prepares : goal.returns-clause-prepares
returns-clause-prepares g c = λ p is_formula is_second is_proof.
    let o = g.D.Desk.outside c.args.desk.now in
    acts_then (c.in_ok-formula.ensures.loads p is_formula is_second)
    (file_given c.args.limit c.args.proof (g.D.Desk.outside c.begin.new.desk) (g.D.Desk.outside c.create_proof.new.desk) c.in_ok-create_proof.ensures)
    (λ w begun made. (made ∙ (ap (gives_file c.args.proof) begun.0 ∙ proof_call p c.args.proof (seen w o) is_proof), begun.1))
