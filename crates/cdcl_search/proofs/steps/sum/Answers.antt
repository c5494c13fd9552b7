use Rattle.std.proofs.Common.{refl}
use Rattle.cdcl_search.proofs.StepTexts.{sum_text}
use Rattle.cdcl_search.proofs.steps.sum.Goals as goal

pub returns : goal.returns
returns c = record { is = refl; text = sum_text c.args.id c.args.lits c.args.sources c.requires.id c.as_slice.ensures.proper c.requires.sources }
