use Rattle.cx_texts.proofs.TextLaws.{one_event_reading}
use Rattle.cx_texts.proofs.laws.events_read_in_one_way.Goals as goal

pub returns : goal.returns
returns c = one_event_reading
