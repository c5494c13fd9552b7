use Rattle.std.proofs.Common.{◌≡◌, ◌++◌, take, map}
use Rattle.cx_base.specs.Problem.{clauses_of}
use Rattle.xor_recover.specs.Entries.{row_of}
use Rattle.xor_recover.specs.Starts.{rows_at}
use Rattle.xor_recover.proofs.gathering.Room.add_starts.Given as goal

abbrev pub invariant-loop-start : goal.invariant-loop-start
invariant-loop-start l = map row_of l.self.entries.items ≡ map row_of l.fn.self.entries.items ++ rows_at (clauses_of l.formula.constraints) (take l.start-index l.run)
