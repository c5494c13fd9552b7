use Rattle.std.proofs.Common.{rules}
use Rattle.cx_words.proofs.numbers.conflicts.Goals as goal

pub returns-in-Some : goal.returns-in-Some
returns-in-Some c = search rules
