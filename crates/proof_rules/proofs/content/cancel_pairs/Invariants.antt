use Rattle.proof_rules.proofs.OddLaws.{KeptSoFar}
use Rattle.proof_rules.proofs.content.cancel_pairs.Given as goal

abbrev pub invariant-loop-place : goal.invariant-loop-place
invariant-loop-place l = KeptSoFar l.initial.numbers.items l.numbers.items l.place l.kept
