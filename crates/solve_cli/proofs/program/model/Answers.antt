use Rattle.std.proofs.Common.{refl}
use Rattle.solve_cli.proofs.Acting.{acts_then, acts_as}
use Rattle.solve_cli.proofs.Works.{concluded, wanted}
use Rattle.solve_cli.specs.Seen.{seen}
use Rattle.cx_words.specs.declared.plans.Plan.TheVariants as plan
use Rattle.solve_cli.proofs.program.model.Goals as goal

pub returns-in-Err : goal.returns-in-Err
returns-in-Err g c = c.in-Err.ensures (plan.Model c.args.formula c.args.values) refl refl refl

pub returns-in-Ok-judge_answer : goal.returns-in-Ok-judge_answer
returns-in-Ok-judge_answer g c =
    let n = g.D.Desk.outside c.answer.new.desk in
    let judged = rw c.as_slice.ensures at (c.in-Ok-judge_answer.ensures c.args.formula c.args.values) in
    acts_then (c.in-Ok.ensures (plan.Model c.args.formula c.args.values) refl refl refl) (c.answer.ensures c.args.limit)
    (λ w loaded a. concluded loaded c.in-Ok-judge_answer.ending c.answer.result (seen w n) refl judged (λ files. refl) a)

pub returns : goal.returns
returns g c = acts_as (c.in-Ok.ensures (plan.Model c.args.formula c.args.values) refl refl refl) (λ w loaded. wanted loaded)
