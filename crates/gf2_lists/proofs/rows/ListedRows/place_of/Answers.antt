use Rattle.std.proofs.Common.{sym, subst}
use Rattle.parity_engine.specs.Written.{Rises}
use Rattle.parity_engine.proofs.Rising.{columns_rise}
use Rattle.gf2_lists.proofs.rows.ListedRows.place_of.Goals as goal

pub place_of-requires : goal.place_of-requires
place_of-requires c = subst (Rises 1) (sym c.deref.ensures.value) (columns_rise 1 c.self.inside.vars c.self.inside.columns.items c.self.invariant.3)
