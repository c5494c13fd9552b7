use Rattle.std.proofs.Common.{refl}
use Rattle.rup_engine.proofs.EngineLaws.{holds_still}
use Rattle.rup_engine.proofs.engine.Engine.renew.Goals as goal

pub returns-then-self-opening-clause-holds : goal.returns-then-self-opening-clause-holds
returns-then-self-opening-clause-holds c table holds =
    let e = c.args.self.now in
    c.close.ensures.holds table (holds_still table e (record e { hints = c.saturating_add-self.result }) refl refl refl holds)
