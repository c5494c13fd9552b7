use Rattle.std.proofs.Common.{ap, map}
use Rattle.cx_texts.specs.Tokens.{tokens}
use Rattle.model_out.specs.LineTokens.{line_token}
use Rattle.model_out.proofs.line_tokens.LineTokens.new.Goals as goal

pub returns : goal.returns
unfolding tokens
returns c = ap (map (line_token c.args.text.now)) c.new.ensures
