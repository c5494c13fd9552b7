use Rattle.step_text.proofs.Taken.{taken, id_fills}
use Rattle.step_text.proofs.fields.take_any_id.Goals as goal

pub returns-in-Positive : goal.returns-in-Positive
returns-in-Positive c = taken c.args.tokens.now c.pass.new.self c.word.result c.in-Some.seen _ _ c.in-Some.is c.word.ensures c.in-Positive.is c.pass.ensures (id_fills c.in-Positive.number)
