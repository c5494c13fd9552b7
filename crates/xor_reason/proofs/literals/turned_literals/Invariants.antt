use Rattle.xor_reason.proofs.ClauseLaws.{AreTurnedBelow}
use Rattle.xor_reason.proofs.literals.turned_literals.Given as goal

abbrev pub invariant-loop-place : goal.invariant-loop-place
invariant-loop-place l = AreTurnedBelow l.trail l.implied l.fn.lits l.clause.items l.place
