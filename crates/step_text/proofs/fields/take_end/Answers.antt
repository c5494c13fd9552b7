use Rattle.step_text.proofs.Taken.{taken, zero_fills}
use Rattle.step_text.proofs.fields.take_end.Goals as goal

pub returns-in-Zero : goal.returns-in-Zero
returns-in-Zero c = taken c.args.tokens.now c.pass.new.self c.word.result c.in-Some.seen _ _ c.in-Some.is c.word.ensures c.in-Zero.is c.pass.ensures zero_fills
