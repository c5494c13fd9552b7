use Rattle.std.proofs.Common.{refl}
use Rattle.cdcl_search.proofs.StepTexts.{original_text}
use Rattle.cdcl_search.proofs.steps.original.Goals as goal

pub returns : goal.returns
returns c = record { is = refl; text = original_text c.args.id c.args.lits c.requires c.as_slice.ensures.proper }
