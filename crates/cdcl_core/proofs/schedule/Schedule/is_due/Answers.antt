use Rattle.cdcl_core.proofs.schedule.Schedule.is_due.Goals as goal

pub returns : goal.returns
returns c = c.restart_due.ensures
