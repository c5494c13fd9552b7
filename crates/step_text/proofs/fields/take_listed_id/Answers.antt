use Rattle.step_text.proofs.Taken.{short_end, short_listed_id}
use Rattle.step_text.proofs.fields.take_listed_id.Goals as goal

pub returns-then-number-eq0-clause-taken : goal.returns-then-number-eq0-clause-taken
returns-then-number-eq0-clause-taken c = short_end c.args.tokens.now c.in-Some.number c.take_short.new.self c.in-Some.ensures.1 c.if-number-eq0.true

pub returns-else-number-eq0-clause-taken : goal.returns-else-number-eq0-clause-taken
returns-else-number-eq0-clause-taken c = short_listed_id c.args.tokens.now c.in-Some.number c.take_short.new.self c.in-Some.ensures.1 c.in-Some.ensures.0 c.if-number-eq0.false
