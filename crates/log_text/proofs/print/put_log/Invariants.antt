use Rattle.std.proofs.Common.{◌≡◌, take}
use Rattle.cx_desk.specs.Calls.{gained}
use Rattle.cx_texts.specs.Printed.{printed_log}
use Rattle.log_text.proofs.print.put_log.Given as goal

abbrev pub invariant-loop-event : goal.invariant-loop-event
invariant-loop-event g l = g.D.Desk.outside l.desk ≡ gained l.port (printed_log (take l.event-index l.event-items)) (g.D.Desk.outside l.initial.desk)
