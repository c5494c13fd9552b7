use Rattle.std.proofs.Common.{◌≡◌, ◌≤◌, ◌<◌, true, length, take}
use Rattle.cx_semantics.specs.Chain.{has_literal}
use Rattle.clause_tidy.specs.Shortened.{IsWithout}
use Rattle.clause_tidy.proofs.shortening.without.Given as goal

abbrev pub invariant-loop-other : goal.invariant-loop-other
invariant-loop-other l = record {
  so_far : IsWithout (take l.other-index l.lits) l.lit l.found.items;
  few : length l.found.items ≤ l.other-index;
  fewer : has_literal (take l.other-index l.lits) l.lit ≡ true → length l.found.items < l.other-index;
}
