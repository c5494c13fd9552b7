use Rattle.std.proofs.Common.{[]}
use Rattle.cx_texts.specs.LogText.{log_steps}
use Rattle.cx_texts.proofs.Grammars.{log_forms}
use Rattle.step_text.proofs.Given.{given_is_printable}
use Rattle.text_tests.proofs.log_steps.put_all.Goals as goal

pub put-requires : goal.put-requires
put-requires c = given_is_printable log_steps log_forms c.loop-k.source c.next_step.new.self c.in-Ok-Some.step (rw c.in-Ok-Some.field-0-is at (c.in-Ok-Some.ensures.step [] tt))
