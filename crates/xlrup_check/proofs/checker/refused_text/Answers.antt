use Rattle.std.proofs.Common.{rules}
use Rattle.xlrup_check.proofs.checker.refused_text.Goals as goal

pub returns-in-TooLong : goal.returns-in-TooLong
returns-in-TooLong c = search rules
