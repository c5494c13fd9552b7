use Rattle.std.proofs.Common.{subst, sym}
use Rattle.cx_words.specs.Words.{IsFit}
use Rattle.solve_cli.specs.Happens.{Works}
use Rattle.solve_cli.specs.Seen.{seen}
use Rattle.solve_cli.proofs.Acting.{acts_as}
use Rattle.solve_cli.proofs.program.carry_out.Goals as goal

pub solve-requires-clause-conflicts : goal.solve-requires-clause-conflicts
solve-requires-clause-conflicts g c = let fits = subst IsFit c.in-Solve.is c.requires.fit in (fits.0, fits.1)

pub demo-requires-clause-low : goal.demo-requires-clause-low
demo-requires-clause-low g c = (subst IsFit c.in-Demo.is c.requires.fit).0

pub demo-requires-clause-high : goal.demo-requires-clause-high
demo-requires-clause-high g c = (subst IsFit c.in-Demo.is c.requires.fit).1

pub returns-in-Demo : goal.returns-in-Demo
returns-in-Demo g c =
    let o = g.D.Desk.outside c.args.desk.now in
    let n = g.D.Desk.outside c.demo.new.desk in
    acts_as (c.demo.ensures c.args.limit) (λ w h. subst (λ p. Works p c.args.limit (seen w o) c.demo.result (seen w n)) (sym c.in-Demo.is) h)
