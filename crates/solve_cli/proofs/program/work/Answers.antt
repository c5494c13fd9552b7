use Rattle.std.proofs.Common.{Err, refl, ap}
use Rattle.cx_words.specs.Words.{texts}
use Rattle.solve_cli.specs.Seen.{seen}
use Rattle.solve_cli.proofs.Acting.{acts_none, acts_as}
use Rattle.solve_cli.proofs.Demonstrating.{works_for}
use Rattle.solve_cli.proofs.program.work.Goals as goal

pub returns-in-Err-Usage : goal.returns-in-Err-Usage
returns-in-Err-Usage g c = acts_none c.args.limit (g.D.Desk.outside c.args.desk.now) (λ w. (c.in-Err-Usage.ensures.usage (ap Err c.in-Err-Usage.field-0-is), refl))

pub returns-in-Ok : goal.returns-in-Ok
returns-in-Ok g c =
    let o = g.D.Desk.outside c.args.desk.now in
    let n = g.D.Desk.outside c.carry_out.new.desk in
    acts_as c.carry_out.ensures (λ w h. works_for (texts c.args.words.now) c.in-Ok.wanted c.args.limit (seen w o) c.carry_out.result (seen w n) c.in-Ok.ensures.ok h)
