use Rattle.gauss_jordan.specs.Slots.{AreTerms}
use Rattle.gauss_jordan.proofs.slot.copy_terms.Given as goal

abbrev pub invariant-loop-before : goal.invariant-loop-before
invariant-loop-before l = AreTerms l.matrix l.row l.fn.terms l.terms l.before
