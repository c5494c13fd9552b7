use Rattle.proof_trim.specs.Outcomes.{ListsNames}
use Rattle.proof_trim.proofs.trimming.numbers_in.Given as goal

abbrev pub invariant-loop-place : goal.invariant-loop-place
invariant-loop-place l = ListsNames l.names l.kind l.place l.numbers.items
