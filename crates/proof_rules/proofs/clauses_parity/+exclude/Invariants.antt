use Rattle.std.proofs.Common.{length}
use Rattle.proof_rules.proofs.clauses_parity.+exclude.Given as goal

abbrev pub decreases-exclude : goal.decreases-exclude
decreases-exclude l = length l.variables.now
