use Rattle.std.proofs.Common.{rules}
use Rattle.step_text.proofs.slot_reader.whole_len.Goals as goal

pub returns-else-ended-clause-blank : goal.returns-else-ended-clause-blank
returns-else-ended-clause-blank c = search rules
