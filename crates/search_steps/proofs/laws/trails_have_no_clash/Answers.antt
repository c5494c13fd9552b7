use Rattle.search_steps.proofs.OverSearch.{no_clash}
use Rattle.search_steps.proofs.laws.trails_have_no_clash.Goals as goal

pub returns : goal.returns
returns c = λ tidies. no_clash {tidies = tidies}
