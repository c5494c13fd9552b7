use Rattle.std.proofs.Common.{◌≡◌, arith}
use Rattle.std.proofs.lemmas.Grind.{common_steps}
use Rattle.clap.specs.Words.{found_of, rows_of}
use Rattle.cx_words.specs.Given.{planned}
use Rattle.cx_words.specs.Words.{plan_of, texts}
use Rattle.cx_words.proofs.Fits.{fit_by}
use Rattle.cx_words.proofs.PlanLaws.{asks_by, refuses_by}
use Rattle.cx_words.proofs.words.plan.Goals as goal

pub returns-in-Some-clause-ok : goal.returns-in-Some-clause-ok
unfolding plan_of
returns-in-Some-clause-ok c =
    let is : plan_of (texts c.args.words.now) ≡ planned c.in-Some.command.now (rows_of (found_of c.in-Some.found.now)) = grind (arith, common_steps) in
    asks_by (texts c.args.words.now) _ c.planned.result c.in-Ok.ensures.taken is c.planned.ensures

pub returns-in-Some-clause-usage : goal.returns-in-Some-clause-usage
unfolding plan_of
returns-in-Some-clause-usage c =
    let is : plan_of (texts c.args.words.now) ≡ planned c.in-Some.command.now (rows_of (found_of c.in-Some.found.now)) = grind (arith, common_steps) in
    refuses_by (texts c.args.words.now) _ c.planned.result is c.planned.ensures

pub returns-in-Some-clause-fit : goal.returns-in-Some-clause-fit
returns-in-Some-clause-fit c = fit_by (texts c.args.words.now) c.planned.result (returns-in-Some-clause-ok c)
