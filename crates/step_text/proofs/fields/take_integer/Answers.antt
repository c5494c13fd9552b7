use Rattle.step_text.proofs.Taken.{taken, negative_fills, positive_fills}
use Rattle.step_text.proofs.fields.take_integer.Goals as goal

pub returns-in-Positive : goal.returns-in-Positive
returns-in-Positive c = taken c.args.tokens.now c.pass.new.self c.word.result c.in-Some.seen _ _ c.in-Some.is c.word.ensures c.in-Positive.is c.pass.ensures (positive_fills c.in-Positive.number)

pub returns-in-Negative : goal.returns-in-Negative
returns-in-Negative c = taken c.args.tokens.now c.pass-in-Negative.new.self c.word.result c.in-Some.seen _ _ c.in-Some.is c.word.ensures c.in-Negative.is c.pass-in-Negative.ensures (negative_fills c.in-Negative.number)
