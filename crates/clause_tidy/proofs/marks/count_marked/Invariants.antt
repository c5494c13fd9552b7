use Rattle.std.proofs.Common.{◌≡◌, take}
use Rattle.std.specs.List.{count_by}
use Rattle.clause_tidy.specs.Marks.{is_marked}
use Rattle.clause_tidy.proofs.marks.count_marked.Given as goal

-- of the first ones
abbrev pub invariant-loop-lit : goal.invariant-loop-lit
invariant-loop-lit l = l.count ≡ count_by (is_marked l.marks) (take l.lit-index l.lits)
