use Rattle.std.proofs.Common.{length}
use Rattle.proof_rules.proofs.clauses_parity.+all_excluded.Given as goal

abbrev pub decreases-all_excluded : goal.decreases-all_excluded
decreases-all_excluded l = length l.variables.now
