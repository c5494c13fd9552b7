use Rattle.std.proofs.Common.{refl}
use Rattle.cdcl_search.proofs.StepTexts.{recovered_text}
use Rattle.cdcl_search.proofs.steps.recovered_parity.Goals as goal

pub returns : goal.returns
returns c = record { is = refl; text = recovered_text c.args.id c.args.lits c.args.clauses c.requires.id c.as_slice.ensures.proper c.requires.clauses }
