use Rattle.step_text.proofs.Taken.{short_id}
use Rattle.step_text.proofs.fields.take_id.Goals as goal

pub returns-in-Some : goal.returns-in-Some
returns-in-Some c = short_id c.args.tokens.now c.in-Some.number c.take_short.new.self c.in-Some.ensures.1 c.in-Some.ensures.0
