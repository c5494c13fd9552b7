use Rattle.cdcl_core.proofs.tidying.is_learned.Goals as goal

pub returns-then-is_live : goal.returns-then-is_live
returns-then-is_live c = c.learned.ensures
