use Rattle.std.proofs.Common.{◌≡◌, false, take}
use Rattle.std.specs.List.{list_any}
use Rattle.cx_base.specs.Literals.{negate}
use Rattle.clause_tidy.specs.Marks.{is_marked}
use Rattle.clause_tidy.proofs.marks.has_turned.Given as goal

-- no negation of the first ones is marked
abbrev pub invariant-loop-lit : goal.invariant-loop-lit
invariant-loop-lit l = list_any (λ m. is_marked l.marks (negate m)) (take l.lit-index l.lits) ≡ false
