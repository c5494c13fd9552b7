use Rattle.xor_blast.proofs.OddLaws.{KeptSoFar}
use Rattle.xor_blast.proofs.normal.cancel_pairs.Given as goal

abbrev pub invariant-loop-place : goal.invariant-loop-place
invariant-loop-place l = KeptSoFar l.initial.numbers.items l.numbers.items l.place l.kept
