use Rattle.fratx_elab.proofs.Texts.{clause_text}
use Rattle.fratx_elab.proofs.steps.clause_step.Goals as goal

pub returns-clause-text : goal.returns-clause-text
returns-clause-text c = clause_text c.number.result c.args.lits c.args.hints c.number.ensures.low c.number.ensures.high c.as_slice-lits.ensures.proper c.as_slice-hints.ensures.proper
