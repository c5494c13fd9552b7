use Rattle.cx_texts.proofs.EventSteps.{events_give_steps}
use Rattle.cx_texts.proofs.laws.events_give_steps.Goals as goal

pub returns : goal.returns
returns c = events_give_steps
