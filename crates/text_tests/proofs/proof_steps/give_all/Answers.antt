use Rattle.std.proofs.Common.{[]}
use Rattle.cx_texts.specs.ProofText.{proof_steps}
use Rattle.cx_texts.proofs.Grammars.{proof_forms}
use Rattle.step_text.proofs.Given.{given_is_printable}
use Rattle.text_tests.proofs.proof_steps.give_all.Goals as goal

pub give-requires-clause-text : goal.give-requires-clause-text
give-requires-clause-text g c = given_is_printable proof_steps proof_forms c.loop-taken.source c.next_step.new.self c.in-Ok-Some.step (rw c.in-Ok-Some.field-0-is at (c.in-Ok-Some.ensures.step [] tt))
