use Rattle.cdcl_core.proofs.beginning.settle_tidying.Goals as goal

pub returns-clause-stands : goal.returns-clause-stands
returns-clause-stands c = c.begin_tidying.ensures.stands
