use Rattle.std.proofs.Common.{sym, false}
use Rattle.cx_texts.specs.Tokens.{tokens}
use Rattle.step_text.proofs.AheadLaws.{left_from}
use Rattle.step_text.proofs.ahead.TokensAhead.new.Goals as goal

pub returns : goal.returns
unfolding tokens
returns c = sym (left_from 0 false c.args.text.now 0 c.begin_of_next.result c.begin_of_next.ensures.left)
