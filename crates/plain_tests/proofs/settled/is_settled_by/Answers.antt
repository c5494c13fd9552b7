use Rattle.std.proofs.Common.{◌∙◌, ap}
use Rattle.plain_tests.specs.Settling.{is_decided}
use Rattle.plain_tests.proofs.StandingLaws.{ok_maps}
use Rattle.plain_tests.proofs.SettlingLaws.{settled_by}
use Rattle.plain_tests.proofs.settled.is_settled_by.Goals as goal

pub returns : goal.returns
returns c =
    let formula = c.args.formula.now in
    let ps = c.args.parities.now in
    ok_maps c.is_decided.result c.is_decided.ensures (λ b e. settled_by formula ps c.requires c.in_ok-known.known.items c.in_ok-known.ensures.within b c.in_ok-known.ensures.least (e ∙ ap (is_decided formula ps) c.deref.ensures.value))
