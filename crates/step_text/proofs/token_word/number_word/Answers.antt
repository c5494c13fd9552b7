use Rattle.std.proofs.Common.{rules}
use Rattle.step_text.proofs.token_word.number_word.Goals as goal

pub overflow_cast-result : goal.overflow_cast-result
overflow_cast-result c = search rules

pub overflow_cast-result-else-negative-2 : goal.overflow_cast-result-else-negative-2
overflow_cast-result-else-negative-2 c = search rules

pub overflow_sub-result : goal.overflow_sub-result
overflow_sub-result c = search rules

pub returns-else-negative-2 : goal.returns-else-negative-2
returns-else-negative-2 c = search rules

pub returns-then-negative-2 : goal.returns-then-negative-2
returns-then-negative-2 c = search rules
