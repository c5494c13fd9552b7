use Rattle.rup_engine.proofs.EnterLaws.{at_rest_back}
use Rattle.rup_engine.proofs.engine.Engine.close.Goals as goal

pub returns-clause-rest : goal.returns-clause-rest
returns-clause-rest c =
    let rest = at_rest_back c.args.self.now c.back.new.watches c.back.new.trail c.requires.rest c.back.ensures.back c.back.ensures.watches in
    record { rests = rest.rests; low = rest.low; short = rest.short; known = rest.known; broken = rest.broken; met = rest.met; ids = rest.ids; named = rest.named }
