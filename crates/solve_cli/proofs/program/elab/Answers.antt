use Rattle.std.proofs.Common.{refl, None}
use Rattle.solve_cli.proofs.Acting.{acts_then, acts_both}
use Rattle.solve_cli.proofs.Works.{none_created, elab_answered, elab_failed}
use Rattle.solve_cli.specs.Seen.{seen}
use Rattle.cx_words.specs.declared.plans.Plan.TheVariants as plan
use Rattle.solve_cli.proofs.program.elab.Goals as goal

pub elaborate_log-requires-clause-started : goal.elaborate_log-requires-clause-started
elaborate_log-requires-clause-started g c = c.in-Ok.ensures.ready.started

pub elaborate_log-requires-clause-empty : goal.elaborate_log-requires-clause-empty
elaborate_log-requires-clause-empty g c =
    let opened = (c.in-Ok.ensures.prepares (plan.Elab c.args.names.formula c.args.names.second c.args.proof) refl refl refl).did None tt in
    none_created c.args.names.formula c.args.names.second c.args.proof c.args.limit (seen None (g.D.Desk.outside c.args.desk.now)) c.in-Ok.formula (seen None (g.D.Desk.outside c.prepare.new.desk)) opened.1.0 opened.1.1

pub returns-in-Err : goal.returns-in-Err
returns-in-Err g c = c.in-Err.ensures.prepares (plan.Elab c.args.names.formula c.args.names.second c.args.proof) refl refl refl

pub returns-in-Ok-elaborate_log : goal.returns-in-Ok-elaborate_log
returns-in-Ok-elaborate_log g c =
    let o = g.D.Desk.outside c.args.desk.now in
    let m = g.D.Desk.outside c.prepare.new.desk in
    let p = g.D.Desk.outside c.elaborate_log.new.desk in
    let n = g.D.Desk.outside c.answer.new.desk in
    let opened = c.in-Ok.ensures.prepares (plan.Elab c.args.names.formula c.args.names.second c.args.proof) refl refl refl in
    let made = c.in-Ok-elaborate_log.ensures c.args.names.second c.in-Ok.ensures.ready in
    acts_then opened (acts_both made (c.answer.ensures c.args.limit))
    (λ w b x. elab_answered c.args.names.formula c.args.names.second c.args.proof c.args.limit (seen w o) c.in-Ok.formula (seen w m) b.0 b.1 c.in-Ok-elaborate_log.ending (seen w p) c.answer.result (seen w n) x.0 x.1)

pub returns : goal.returns
returns g c =
    let o = g.D.Desk.outside c.args.desk.now in
    let m = g.D.Desk.outside c.prepare.new.desk in
    let n = g.D.Desk.outside c.elaborate_log.new.desk in
    acts_then (c.in-Ok.ensures.prepares (plan.Elab c.args.names.formula c.args.names.second c.args.proof) refl refl refl) (c.in-Err-elaborate_log.ensures c.args.names.second c.in-Ok.ensures.ready)
    (λ w b h. elab_failed c.args.names.formula c.args.names.second c.args.proof c.args.limit (seen w o) c.in-Ok.formula (seen w m) b.0 b.1 c.in-Err-elaborate_log.outcome (seen w n) h)
