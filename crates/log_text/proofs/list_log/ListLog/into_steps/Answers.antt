use Rattle.std.proofs.Common.{subst}
use Rattle.std.specs.List.{AllByRecursion}
use Rattle.cx_texts.specs.Printed.{printed_log, HasText}
use Rattle.cx_texts.proofs.EventSteps.{events_give_steps}
use Rattle.cx_texts.proofs.PrintedLogs.{printed_log_reads}
use Rattle.log_text.proofs.list_log.ListLog.into_steps.Goals as goal

pub returns-clause-printed : goal.returns-clause-printed
returns-clause-printed c =
    events_give_steps (printed_log c.args.self) c.args.self (printed_log_reads c.args.self (subst (AllByRecursion HasText) c.self.view_is c.self.invariant))
