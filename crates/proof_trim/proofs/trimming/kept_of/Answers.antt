use Rattle.std.proofs.Common.{◌∙◌, sym, subst}
use Rattle.std.specs.List.{AllByRecursion}
use Rattle.proof_trim.specs.Stored.{FitsIn}
use Rattle.proof_trim.proofs.trimming.kept_of.Goals as goal

pub of-requires-clause-room : goal.of-requires-clause-room
of-requires-clause-room c = subst (λ room. AllByRecursion (FitsIn room) c.args.proof) (sym c.in_ok-stays.ensures.room) c.in_ok-here.ensures

pub returns : goal.returns
returns c = c.of.ensures ∙ c.in_ok-stays.ensures.kept
