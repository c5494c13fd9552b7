use Rattle.std.proofs.Common.{rules}
use Rattle.cx_words.proofs.values.blast.Goals as goal

pub returns : goal.returns
returns c = search rules
