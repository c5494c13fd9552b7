use Rattle.std.proofs.Common.{◌∙◌, subst}
use Rattle.cdcl_search.specs.Calls.{TellsUnmade}
use Rattle.cdcl_search.specs.Rows.{steps_in}
use Rattle.cdcl_search.specs.RowClauses.{row_clause_events}
use Rattle.cdcl_search.specs.Tells.{as_events}
use Rattle.cdcl_search.proofs.RowReasons.{same_events}
use Rattle.cdcl_search.proofs.Tellings.{still_right, tells_still}
use Rattle.cdcl_search.proofs.row_clauses.tell_row_clause.Goals as goal

pub returns-then-tell_unmade : goal.returns-then-tell_unmade
returns-then-tell_unmade g c =
    let events = row_clause_events c.args.ids (g.P.ParityEngine.state c.args.engine.now) c.args.made.now in
    subst (λ taken. TellsUnmade g.L.Sink c.args.log.now events taken c.tell_unmade.new.log) c.if-tell_unmade.true c.tell_unmade.ensures

pub tell_made-requires-clause-right : goal.tell_made-requires-clause-right
tell_made-requires-clause-right g c =
    let e = g.P.ParityEngine.state c.args.engine.now in
    let events = row_clause_events c.args.ids e c.args.made.now in
    let same = same_events c.args.ids e c.args.made.now c.in_ok-parity.parity c.in_ok-sources.sources c.requires.named c.requires.written c.in_ok-parity.ensures c.in_ok-sources.ensures in
    still_right g.L.Sink c.args.log.now c.tell_unmade.new.log (subst (λ taken. TellsUnmade g.L.Sink c.args.log.now events taken c.tell_unmade.new.log) c.if-tell_unmade.false c.tell_unmade.ensures)
    (as_events (steps_in c.in_ok-steps.steps)) events (c.in_ok-steps.ensures.are ∙ same) c.requires.right

pub returns : goal.returns
returns g c =
    let e = g.P.ParityEngine.state c.args.engine.now in
    let events = row_clause_events c.args.ids e c.args.made.now in
    let same = same_events c.args.ids e c.args.made.now c.in_ok-parity.parity c.in_ok-sources.sources c.requires.named c.requires.written c.in_ok-parity.ensures c.in_ok-sources.ensures in
    tells_still g.L.Sink c.args.log.now c.tell_unmade.new.log (subst (λ taken. TellsUnmade g.L.Sink c.args.log.now events taken c.tell_unmade.new.log) c.if-tell_unmade.false c.tell_unmade.ensures) g.met.L.Sink.keeps_on
    (as_events (steps_in c.in_ok-steps.steps)) events (c.in_ok-steps.ensures.are ∙ same) c.tell_made.result c.tell_made.new.log c.tell_made.ensures
