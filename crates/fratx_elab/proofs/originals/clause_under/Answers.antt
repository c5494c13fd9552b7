use Rattle.std.proofs.Common.{sym, ◌∙◌}
use Rattle.proof_rules.proofs.LiteralLaws.{same_lists}
use Rattle.fratx_elab.proofs.originals.clause_under.Goals as goal

pub returns-then-eq-clause-same : goal.returns-then-eq-clause-same
returns-then-eq-clause-same c = let same = same_lists c.clause.result.now c.args.lits.now (sym c.eq.ensures ∙ c.if-eq.true) in cc
