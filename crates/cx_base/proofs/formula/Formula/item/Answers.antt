use Rattle.cx_base.proofs.Within.{within_at}
use Rattle.cx_base.proofs.formula.Formula.item.Goals as goal

pub returns-clause-within : goal.returns-clause-within
returns-clause-within c = within_at _ _ _ _ c.stored.ensures c.requires c.vars-vars.ensures.within
