use Rattle.std.proofs.Common.{◌≡◌, length}
use Rattle.clause_tidy.proofs.MarkLaws.{AreLeft}
use Rattle.clause_tidy.proofs.marks.clear.Given as goal

-- what is still marked is none of the first ones
abbrev pub invariant-loop-lit : goal.invariant-loop-lit
invariant-loop-lit l = record {
  left : AreLeft l.marks l.lits l.lit-index;
  room : length l.marks ≡ length l.fn.marks;
}
