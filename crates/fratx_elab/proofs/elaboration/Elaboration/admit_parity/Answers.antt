use Rattle.fratx_elab.proofs.Admitting.{admits_by}
use Rattle.fratx_elab.proofs.elaboration.Elaboration.admit_parity.Goals as goal

pub returns : goal.returns
returns c = admits_by c.args.self.now.formula.now _ c.args.id c.args.lits.now _ _ c.admit_into.result c.vars.ensures.variables c.has.ensures c.admit_into.ensures.judged c.admit_into.ensures.literals
