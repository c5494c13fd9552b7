use Rattle.search_steps.proofs.Ends.{last_step_ends, last_step_fails}
use Rattle.search_steps.proofs.laws.last_steps_end.Goals as goal

pub returns : goal.returns
returns c = λ tidies formula parities s ok step is_right ends. (last_step_ends formula parities s ok step is_right ends, last_step_fails formula parities s ok step is_right ends)
