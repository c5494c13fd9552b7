use Rattle.std.proofs.Common.{subst}
use Rattle.cx_base.specs.Integers.{integers_of}
use Rattle.search_steps.specs.LogSteps.{row_events}
use Rattle.cdcl_search.specs.Calls.{TellsUnmade}
use Rattle.cdcl_search.specs.Rows.{steps_in}
use Rattle.cdcl_search.specs.Tells.{as_events}
use Rattle.cdcl_search.proofs.Tellings.{still_right, tells_still}
use Rattle.cdcl_search.proofs.rows.tell_row.Goals as goal

pub returns-then-tell_unmade : goal.returns-then-tell_unmade
returns-then-tell_unmade g c =
    let events = row_events c.args.ids.sum (integers_of c.args.parity.now) c.args.sources c.args.ids.clause (integers_of c.args.clause.now) in
    subst (λ taken. TellsUnmade g.L.Sink c.args.log.now events taken c.tell_unmade.new.log) c.if-tell_unmade.true c.tell_unmade.ensures

pub tell_made-requires-clause-right : goal.tell_made-requires-clause-right
tell_made-requires-clause-right g c =
    let events = row_events c.args.ids.sum (integers_of c.args.parity.now) c.args.sources c.args.ids.clause (integers_of c.args.clause.now) in
    still_right g.L.Sink c.args.log.now c.tell_unmade.new.log (subst (λ taken. TellsUnmade g.L.Sink c.args.log.now events taken c.tell_unmade.new.log) c.if-tell_unmade.false c.tell_unmade.ensures)
    (as_events (steps_in c.in_ok-steps.steps)) events c.in_ok-steps.ensures.are c.requires.right

pub returns : goal.returns
returns g c =
    let events = row_events c.args.ids.sum (integers_of c.args.parity.now) c.args.sources c.args.ids.clause (integers_of c.args.clause.now) in
    tells_still g.L.Sink c.args.log.now c.tell_unmade.new.log (subst (λ taken. TellsUnmade g.L.Sink c.args.log.now events taken c.tell_unmade.new.log) c.if-tell_unmade.false c.tell_unmade.ensures) g.met.L.Sink.keeps_on
    (as_events (steps_in c.in_ok-steps.steps)) events c.in_ok-steps.ensures.are c.tell_made.result c.tell_made.new.log c.tell_made.ensures
