use Rattle.std.proofs.Common.{◌≡◌, ◌++◌, map, take}
use Rattle.cx_base.specs.Problem.{clauses_of}
use Rattle.xor_recover.specs.Entries.{row_of}
use Rattle.xor_recover.specs.Starts.{rows_at}
use Rattle.xor_recover.specs.Wholes.{starts_of_all}
use Rattle.xor_recover.proofs.gathering.Room.fill.Given as goal

abbrev pub invariant-loop-whole : goal.invariant-loop-whole
invariant-loop-whole l = map row_of l.self.entries.items ≡ rows_at (clauses_of l.formula.constraints) (l.run ++ starts_of_all (take l.whole-index l.wholes))
