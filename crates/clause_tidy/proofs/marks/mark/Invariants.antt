use Rattle.std.proofs.Common.{◌≡◌, ◌≤◌, length, take}
use Rattle.clause_tidy.specs.Marks.{AreMarksOf, HasSoMany}
use Rattle.clause_tidy.proofs.marks.mark.Given as goal

-- the first ones are marked and counted
abbrev pub invariant-loop-lit : goal.invariant-loop-lit
invariant-loop-lit l = record {
  marks : AreMarksOf l.marks (take l.lit-index l.lits);
  many : HasSoMany (take l.lit-index l.lits) l.count;
  few : l.count ≤ l.lit-index;
  room : length l.marks ≡ length l.fn.marks;
}
