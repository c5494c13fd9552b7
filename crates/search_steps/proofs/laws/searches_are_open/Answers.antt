use Rattle.search_steps.proofs.EndLaws.{is_log_open, is_marked}
use Rattle.search_steps.proofs.laws.searches_are_open.Goals as goal

pub returns : goal.returns
returns c = λ tidies formula parities s ok served. (is_log_open formula parities s ok served, is_marked formula parities s ok served)
