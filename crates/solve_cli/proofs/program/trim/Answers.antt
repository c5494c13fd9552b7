use Rattle.std.proofs.Common.{refl}
use Rattle.solve_cli.proofs.Acting.{acts_then, acts_both}
use Rattle.solve_cli.proofs.SlotTrims.{trim_answered, trim_failed}
use Rattle.solve_cli.specs.Seen.{seen}
use Rattle.cx_words.specs.declared.plans.Plan.TheVariants as plan
use Rattle.solve_cli.proofs.program.trim.Goals as goal

pub trim_proof-requires-clause-started : goal.trim_proof-requires-clause-started
trim_proof-requires-clause-started g c = c.in-Ok.ensures.ready.started

pub returns-in-Err : goal.returns-in-Err
returns-in-Err g c = c.in-Err.ensures.prepares (plan.Trim c.args.names.formula c.args.names.second c.args.out) refl refl refl

pub returns-in-Ok-trim_proof : goal.returns-in-Ok-trim_proof
returns-in-Ok-trim_proof g c =
    let o = g.D.Desk.outside c.args.desk.now in
    let m = g.D.Desk.outside c.prepare.new.desk in
    let p = g.D.Desk.outside c.trim_proof.new.desk in
    let n = g.D.Desk.outside c.answer.new.desk in
    let begun = c.in-Ok.ensures.prepares (plan.Trim c.args.names.formula c.args.names.second c.args.out) refl refl refl in
    let made = c.in-Ok-trim_proof.ensures c.args.names.second c.in-Ok.ensures.ready in
    acts_then begun (acts_both made (c.answer.ensures c.args.limit))
    (λ w b x. trim_answered c.args.names.formula c.args.names.second c.args.out c.args.limit (seen w o) c.in-Ok.formula (seen w m) b.0 b.1 c.in-Ok-trim_proof.ending (seen w p) c.answer.result (seen w n) x.0 x.1)

pub returns : goal.returns
returns g c =
    let o = g.D.Desk.outside c.args.desk.now in
    let m = g.D.Desk.outside c.prepare.new.desk in
    let n = g.D.Desk.outside c.trim_proof.new.desk in
    acts_then (c.in-Ok.ensures.prepares (plan.Trim c.args.names.formula c.args.names.second c.args.out) refl refl refl) (c.in-Err-trim_proof.ensures c.args.names.second c.in-Ok.ensures.ready)
    (λ w b h. trim_failed c.args.names.formula c.args.names.second c.args.out c.args.limit (seen w o) c.in-Ok.formula (seen w m) b.0 b.1 c.in-Err-trim_proof.outcome (seen w n) h)
