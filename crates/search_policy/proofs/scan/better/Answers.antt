use Rattle.std.proofs.Common.{ap, ◌∙◌}
use Rattle.cx_base.specs.Literals.{Literal}
use Rattle.search_policy.proofs.PickLaws.{picks_past}
use Rattle.search_policy.proofs.scan.better.Goals as goal

pub returns-in-Some : goal.returns-in-Some
returns-in-Some c =
    let w = c.in-Some.ensures.value in
    picks_past c.args.next c.args.scores.now c.args.trail.now.entries c.args.best c.requires.best
    (λ o. o w.0 w.1.0 (ap (λ (x : Literal). x.variable) w.1.1 ∙ c.new-variable.ensures))
