use Rattle.std.proofs.Common.{subst}
use Rattle.std.proofs.lemmas.Result.{err_from_is_err_and}
use Rattle.cx_desk.proofs.Moves.{pieces-fail}
use Rattle.cx_base.specs.declared.steps.LogEvent.{LogEvent}
use Rattle.cx_texts.specs.Grammar.{spelling}
use Rattle.cx_texts.specs.LogText.{log_events}
use Rattle.cx_texts.specs.Printed.{printed_line}
use Rattle.step_text.proofs.Puts.{Fails}
use Rattle.log_text.proofs.print.put_log.Goals as goal

pub returns-in_err-put_event : goal.returns-in_err-put_event
returns-in_err-put_event g c =
    let p = err_from_is_err_and c.from_residual.result c.from_residual.ensures.1 in
    let old = g.D.Desk.outside c.args.desk.now in
    let before = g.D.Desk.outside c.loop-event.desk in
    let after = g.D.Desk.outside c.put_event.new.desk in
    let fault = subst (λ (e : LogEvent). Fails c.args.port (printed_line (spelling log_events e)) before after) c.event-item.is c.in_err-put_event.ensures in
    rw (p.1, ← c.events-event-items.ensures.events) (pieces-fail (λ (e : LogEvent). printed_line (spelling log_events e)) _ c.loop-event.event-index c.event-item.result c.args.port old before after c.loop-event-test.true c.loop-event.invariant fault)
