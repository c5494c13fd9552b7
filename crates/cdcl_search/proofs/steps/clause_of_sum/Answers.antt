use Rattle.std.proofs.Common.{refl}
use Rattle.cdcl_search.proofs.StepTexts.{clause_of_sum_text}
use Rattle.cdcl_search.proofs.steps.clause_of_sum.Goals as goal

pub returns : goal.returns
returns c = record { is = refl; text = clause_of_sum_text c.args.id c.args.lits c.args.source c.requires.id c.as_slice.ensures.proper c.requires.source }
