use Rattle.step_text.proofs.Taken.{taken, id_fills, zero_fills}
use Rattle.step_text.proofs.fields.take_any_listed_id.Goals as goal

pub returns-in-Zero-clause-taken : goal.returns-in-Zero-clause-taken
returns-in-Zero-clause-taken c = taken c.args.tokens.now c.pass.new.self c.word.result c.in-Some.seen _ _ c.in-Some.is c.word.ensures c.in-Zero.is c.pass.ensures zero_fills

pub returns-in-Positive-clause-taken : goal.returns-in-Positive-clause-taken
returns-in-Positive-clause-taken c = taken c.args.tokens.now c.pass-in-Positive.new.self c.word.result c.in-Some.seen _ _ c.in-Some.is c.word.ensures c.in-Positive.is c.pass-in-Positive.ensures (id_fills c.in-Positive.number)
