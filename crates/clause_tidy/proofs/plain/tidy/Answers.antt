use Rattle.clause_tidy.proofs.BelowLaws.{none_below}
use Rattle.clause_tidy.proofs.plain.tidy.Goals as goal

pub tidy_all-requires-clause-tidy : goal.tidy_all-requires-clause-tidy
tidy_all-requires-clause-tidy g c = none_below c.args.arena.now
