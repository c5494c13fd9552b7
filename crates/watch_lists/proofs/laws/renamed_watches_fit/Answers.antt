use Rattle.watch_lists.proofs.RenamedLaws.{renamed_fits}
use Rattle.watch_lists.proofs.laws.renamed_watches_fit.Goals as goal

pub returns : goal.returns
returns c = renamed_fits
