use Rattle.fratx_elab.proofs.Texts.{parity_of_clauses_text}
use Rattle.fratx_elab.proofs.steps.parity_of_clauses_step.Goals as goal

pub returns-clause-text : goal.returns-clause-text
returns-clause-text c = parity_of_clauses_text c.number.result c.args.lits c.args.hints c.number.ensures.low c.number.ensures.high c.as_slice-lits.ensures.proper c.as_slice-hints.ensures.proper
