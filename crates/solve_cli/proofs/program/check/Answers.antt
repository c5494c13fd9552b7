use Rattle.std.proofs.Common.{refl}
use Rattle.solve_cli.proofs.Acting.{acts_then, acts_both}
use Rattle.solve_cli.proofs.Works.{check_answered, second_failed}
use Rattle.solve_cli.specs.Seen.{seen}
use Rattle.cx_words.specs.declared.plans.Plan.TheVariants as plan
use Rattle.solve_cli.proofs.program.check.Goals as goal

pub judge_proof-requires-clause-started : goal.judge_proof-requires-clause-started
judge_proof-requires-clause-started g c = c.in-Ok.ensures.ready.started

pub returns-in-Err : goal.returns-in-Err
returns-in-Err g c = c.in-Err.ensures.prepares (plan.Check c.args.formula c.args.proof) refl refl refl

pub returns-in-Ok-judge_proof : goal.returns-in-Ok-judge_proof
returns-in-Ok-judge_proof g c =
    let o = g.D.Desk.outside c.args.desk.now in
    let m = g.D.Desk.outside c.prepare.new.desk in
    let p = g.D.Desk.outside c.judge_proof.new.desk in
    let n = g.D.Desk.outside c.answer.new.desk in
    let begun = c.in-Ok.ensures.prepares (plan.Check c.args.formula c.args.proof) refl refl refl in
    let judged = c.in-Ok-judge_proof.ensures c.args.proof c.in-Ok.ensures.ready in
    acts_then begun (acts_both judged (c.answer.ensures c.args.limit))
    (λ w b x. check_answered c.args.formula c.args.proof c.args.limit (seen w o) c.in-Ok.formula (seen w m) c.in-Ok-judge_proof.ending (seen w p) c.answer.result (seen w n) b.0 b.1 x.0 x.1)

pub returns : goal.returns
returns g c =
    let p = plan.Check c.args.formula c.args.proof in
    let o = g.D.Desk.outside c.args.desk.now in
    let m = g.D.Desk.outside c.prepare.new.desk in
    let n = g.D.Desk.outside c.judge_proof.new.desk in
    acts_then (c.in-Ok.ensures.prepares p refl refl refl) (c.in-Err-judge_proof.ensures c.args.proof c.in-Ok.ensures.ready)
    (λ w b h. second_failed p c.args.proof c.args.limit (seen w o) c.in-Ok.formula (seen w m) c.in-Err-judge_proof.outcome (seen w n) refl b.0 b.1 h)
