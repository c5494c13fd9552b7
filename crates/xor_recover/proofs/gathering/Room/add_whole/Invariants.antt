use Rattle.std.proofs.Common.{◌≡◌, ◌++◌, map}
use Rattle.cx_base.specs.Problem.{clauses_of}
use Rattle.xor_recover.specs.Entries.{row_of}
use Rattle.xor_recover.specs.Starts.{rows_at}
use Rattle.xor_recover.proofs.WholeRows.{neighbours}
use Rattle.xor_recover.proofs.gathering.Room.add_whole.Given as goal

abbrev pub invariant-loop-index : goal.invariant-loop-index
invariant-loop-index l = map row_of l.self.entries.items ≡ map row_of l.fn.self.entries.items ++ rows_at (clauses_of l.formula.constraints) (neighbours l.whole.start l.whole.start.number l.index)
