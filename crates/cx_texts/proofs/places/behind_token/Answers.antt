use Rattle.std.proofs.Common.{rules}
use Rattle.cx_texts.proofs.places.behind_token.Goals as goal

pub returns-else-blank_follows-clause-left : goal.returns-else-blank_follows-clause-left
returns-else-blank_follows-clause-left c = search rules
