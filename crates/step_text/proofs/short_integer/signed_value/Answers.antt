use Rattle.std.proofs.Common.{rules}
use Rattle.step_text.proofs.short_integer.signed_value.Goals as goal

pub returns-then-negative : goal.returns-then-negative
returns-then-negative c = search rules
