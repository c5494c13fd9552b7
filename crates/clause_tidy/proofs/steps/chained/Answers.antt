use Rattle.std.proofs.Common.{refl}
use Rattle.clause_tidy.proofs.StepTexts.{chained_text}
use Rattle.clause_tidy.proofs.steps.chained.Goals as goal

pub returns : goal.returns
returns c = record { is = refl; text = chained_text c.args.id c.args.lits c.args.hints c.requires c.as_slice.ensures.proper c.as_slice-2.ensures.proper }
