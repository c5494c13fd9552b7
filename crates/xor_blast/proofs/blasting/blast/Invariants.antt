use Rattle.xor_blast.proofs.BlastingLaws.{Blasting}
use Rattle.xor_blast.proofs.blasting.blast.Given as goal

abbrev pub invariant-loop-place : goal.invariant-loop-place
invariant-loop-place l = Blasting l.formula l.place l.vars l.builder
