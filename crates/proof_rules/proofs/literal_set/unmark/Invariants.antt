use Rattle.std.proofs.Common.{drop}
use Rattle.proof_rules.specs.LiteralSets.{AreMarkedOnly}
use Rattle.proof_rules.proofs.literal_set.unmark.Given as goal

abbrev pub invariant-loop-lit : goal.invariant-loop-lit
invariant-loop-lit l = AreMarkedOnly l.initial.marks l.lits → AreMarkedOnly l.marks (drop l.lit-index l.lits)
