use Rattle.std.proofs.Common.{refl}
use Rattle.cdcl_search.proofs.Following.{clauses_followed}
use Rattle.cdcl_search.proofs.propagation.follow_clauses.Goals as goal

pub returns-clause-stands : goal.returns-clause-stands
returns-clause-stands c formula e told stands =
    clauses_followed formula e told c.args.state.now c.next_event-event.new.trail c.next_event-event.new.self c.len-sound.ensures.sound c.next_event-event.ensures.attached c.next_event-event.ensures.fits c.next_event-event.ensures.propagates stands

pub returns-clause-same : goal.returns-clause-same
returns-clause-same c =
    let p = c.next_event-event.ensures.propagates in
    (p.level, refl, refl, refl, record { more = p.more; parts = p.grown; level = p.level; variables = p.variables }, refl)
