use Rattle.std.proofs.Common.{arith}
use Rattle.cx_base.proofs.Parts.{both_kinds}
use Rattle.fratx_elab.proofs.originals.count_kinds.Goals as goal

pub returns-clause-kinds : goal.returns-clause-kinds
returns-clause-kinds c = let both = both_kinds c.args.formula.now.constraints in omega (arith, both)

pub returns-clause-counts : goal.returns-clause-counts
returns-clause-counts c = record { clauses = c.clause_count.ensures; parities = c.parity_count.ensures }

pub returns-clause-few : goal.returns-clause-few
returns-clause-few c = c.len-constraints.ensures.few
