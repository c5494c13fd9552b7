use Rattle.std.proofs.Common.{refl, sym, ap, ◌∙◌, subst, None, Some, Err, take}
use Rattle.std.proofs.lemmas.Result.{err_from_is_err_and}
use Rattle.cx_desk.specs.declared.desk.Port.TheVariants as port
use Rattle.cx_words.specs.declared.plans.Plan.TheVariants as plan
use Rattle.cnfx_reader.specs.PrintedFormula.{printed_formula}
use Rattle.solve_cli.specs.Seen.{Seen, seen, creates}
use Rattle.solve_cli.specs.Steps.{Acts, Finds}
use Rattle.solve_cli.proofs.Acting.{acts_then, acts_both, acts_puts, acts_torn}
use Rattle.solve_cli.proofs.Blasting.{may_write, blast_ends, blast_cut}
use Rattle.solve_cli.proofs.FormulaTexts.{file_given, file_refused}
use Rattle.solve_cli.proofs.Works.{create_failed}
use Rattle.solve_cli.proofs.blast.blast_formula.Goals as goal

pub create_proof-requires : goal.create_proof-requires
create_proof-requires g c = record {
  unasked = ap (λ (s : Seen). s.asked.proof) ((c.in_ok-made.ensures c.args.out).did None tt).1.3 ∙ c.requires.fresh.proof;
}

pub returns-in_err-made : goal.returns-in_err-made
returns-in_err-made g c =
    let p = plan.Blast c.args.formula c.args.out in
    let o = g.D.Desk.outside c.args.desk.now in
    let n = g.D.Desk.outside c.read_in_clauses.new.desk in
    let is = err_from_is_err_and c.from_residual.result c.from_residual.ensures.1 in
    subst (λ r. Acts c.args.limit o n (λ w. Finds p c.args.limit (seen w o) r (seen w n))) (sym (is.1 ∙ ap Err is.2)) (c.in_err-made.ensures c.args.out)

pub returns-in_err-create_proof : goal.returns-in_err-create_proof
returns-in_err-create_proof g c =
    let p = plan.Blast c.args.formula c.args.out in
    let o = g.D.Desk.outside c.args.desk.now in
    let m = g.D.Desk.outside c.read_in_clauses.new.desk in
    let n = g.D.Desk.outside c.create_proof.new.desk in
    let e = c.in_err-create_proof.field-0.0 in
    let is = err_from_is_err_and c.from_residual-in_err-create_proof.result c.from_residual-in_err-create_proof.ensures.1 in
    subst (λ r. Acts c.args.limit o n (λ w. Finds p c.args.limit (seen w o) r (seen w n))) (sym (is.1 ∙ ap Err is.2))
    (acts_then (c.in_ok-made.ensures c.args.out) (file_refused c.args.limit (Some c.args.out) m e n c.in_err-create_proof.ensures)
    (λ w r h. create_failed p (Some c.args.out) c.args.limit (seen w o) (seen w m) r.0 e (seen w n) refl
    (may_write c.args.formula c.args.out c.args.limit (seen w o) r.0 r.1 c.in_ok-made.made r.2) r.3 r.1 h))

pub returns-in-Ok : goal.returns-in-Ok
returns-in-Ok g c =
    let o = g.D.Desk.outside c.args.desk.now in
    let m = g.D.Desk.outside c.read_in_clauses.new.desk in
    let at = g.D.Desk.outside c.create_proof.new.desk in
    let n = g.D.Desk.outside c.put_formula.new.desk in
    let made = c.in_ok-made.made in
    let written = acts_both (file_given c.args.limit (Some c.args.out) m at c.in_ok-create_proof.ensures) (acts_puts c.args.limit port.Proof (printed_formula made) at n c.in-Ok.ensures.put) in
    acts_then (c.in_ok-made.ensures c.args.out) written
    (λ w r is. blast_ends c.args.formula c.args.out c.args.limit (seen w o) r.0 r.1 made r.2 w at (is.0 ∙ ap (creates c.args.out) r.3)
    c.vars.result c.clause_count.result n c.vars.ensures.variables c.clause_count.ensures c.put_formula.ensures.reads c.in-Ok.ensures.put)

pub returns : goal.returns
returns g c =
    let o = g.D.Desk.outside c.args.desk.now in
    let m = g.D.Desk.outside c.read_in_clauses.new.desk in
    let at = g.D.Desk.outside c.create_proof.new.desk in
    let n = g.D.Desk.outside c.put_formula.new.desk in
    let made = c.in_ok-made.made in
    let h = c.in-Err.ensures.put in
    let written = acts_both (file_given c.args.limit (Some c.args.out) m at c.in_ok-create_proof.ensures) (acts_torn c.args.limit port.Proof (take h.0 (printed_formula made)) at n h.2) in
    acts_then (c.in_ok-made.ensures c.args.out) written
    (λ w r is. blast_cut c.args.formula c.args.out c.args.limit (seen w o) r.0 r.1 made r.2 w at (is.0 ∙ ap (creates c.args.out) r.3) h.0 n is.1)
