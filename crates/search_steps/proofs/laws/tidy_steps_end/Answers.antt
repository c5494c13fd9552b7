use Rattle.search_steps.proofs.TidySteps.{tidy_steps_end, tidy_end_is_marked, tidy_end_is_scheduled, tidy_end_is_hinted, tidy_steps_fail}
use Rattle.search_steps.proofs.laws.tidy_steps_end.Goals as goal

pub returns : goal.returns
returns c = λ formula parities s ok at lits steps e spare. record {
  ended = tidy_steps_end formula parities s ok at lits steps e spare;
  marked = tidy_end_is_marked formula parities s ok at lits steps e spare;
  scheduled = tidy_end_is_scheduled formula parities s ok at lits steps e spare;
  hinted = tidy_end_is_hinted formula parities s ok at lits steps e spare;
  failed = tidy_steps_fail formula parities s ok at lits steps e spare;
}
