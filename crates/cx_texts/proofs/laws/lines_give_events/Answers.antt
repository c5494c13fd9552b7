use Rattle.cx_texts.proofs.LogLines.{lines_give_events}
use Rattle.cx_texts.proofs.laws.lines_give_events.Goals as goal

pub returns : goal.returns
returns c = lines_give_events
