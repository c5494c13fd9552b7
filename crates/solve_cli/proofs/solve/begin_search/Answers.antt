use Rattle.std.proofs.Common.{refl, ap, ◌∙◌, None}
use Rattle.solve_cli.proofs.Acting.{acts_then, acts_as}
use Rattle.solve_cli.proofs.FormulaTexts.{file_given, file_refused}
use Rattle.solve_cli.proofs.Works.{formula_failed, create_failed}
use Rattle.solve_cli.specs.Seen.{Seen, seen}
use Rattle.solve_cli.specs.Commands.{gives_file}
use Rattle.cx_words.specs.declared.plans.Plan.TheVariants as plan
use Rattle.solve_cli.proofs.solve.begin_search.Goals as goal

pub create_proof-requires : goal.create_proof-requires
create_proof-requires g c = record {
  unasked = ap (λ (s : Seen). s.asked.proof) (c.in-Ok.ensures.reads.did None tt).1.0 ∙ c.requires.fresh.proof;
}

pub returns-in-Err-clause-begins : goal.returns-in-Err-clause-begins
returns-in-Err-clause-begins g c = λ options.
    let o = g.D.Desk.outside c.args.desk.now in
    let n = g.D.Desk.outside c.read_formula_of.new.desk in
    acts_as c.in-Err.ensures.reads (λ w h. formula_failed (plan.Solve c.args.formula c.args.log options) c.args.formula c.args.limit (seen w o) c.in-Err.outcome (seen w n) refl h)

pub returns-in-Ok-create_proof-clause-begins : goal.returns-in-Ok-create_proof-clause-begins
returns-in-Ok-create_proof-clause-begins g c = λ options.
    let m = g.D.Desk.outside c.read_formula_of.new.desk in
    let n = g.D.Desk.outside c.create_proof.new.desk in
    acts_then c.in-Ok.ensures.reads (file_given c.args.limit c.args.log m n c.in-Ok-create_proof.ensures) (λ w r made. (made ∙ ap (gives_file c.args.log) r.0, r.1))

pub returns-in-Err-create_proof-clause-begins : goal.returns-in-Err-create_proof-clause-begins
returns-in-Err-create_proof-clause-begins g c = λ options.
    let o = g.D.Desk.outside c.args.desk.now in
    let m = g.D.Desk.outside c.read_formula_of.new.desk in
    let n = g.D.Desk.outside c.create_proof.new.desk in
    let e = c.in-Err-create_proof.outcome in
    acts_then c.in-Ok.ensures.reads (file_refused c.args.limit c.args.log m e n c.in-Err-create_proof.ensures)
    (λ w r h. create_failed (plan.Solve c.args.formula c.args.log options) c.args.log c.args.limit (seen w o) (seen w m) c.in-Ok.formula e (seen w n) refl tt r.0 r.1 h)
