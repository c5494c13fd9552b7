use Rattle.search_steps.proofs.OverSearch.{older_values_back}
use Rattle.search_steps.proofs.laws.values_taken_back_hold.Goals as goal

pub returns : goal.returns
returns c = λ tidies. older_values_back {tidies = tidies}
