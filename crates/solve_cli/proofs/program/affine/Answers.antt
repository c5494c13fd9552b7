use Rattle.solve_cli.proofs.Acting.{acts_then}
use Rattle.solve_cli.proofs.Works.{answered}
use Rattle.solve_cli.specs.Seen.{seen}
use Rattle.cx_words.specs.declared.plans.Plan.TheVariants as plan
use Rattle.solve_cli.proofs.program.affine.Goals as goal

pub returns-in-Ok : goal.returns-in-Ok
returns-in-Ok g c =
    let o = g.D.Desk.outside c.args.desk.now in
    let m = g.D.Desk.outside c.solutions_of.new.desk in
    let n = g.D.Desk.outside c.answer.new.desk in
    acts_then c.in-Ok.ensures (c.answer.ensures c.args.limit) (λ w ends a. answered (plan.Affine c.args.formula) c.args.limit (seen w o) c.in-Ok.ending (seen w m) c.answer.result (seen w n) ends a)
