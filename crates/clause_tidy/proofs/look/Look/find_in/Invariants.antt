use Rattle.std.proofs.Common.{take}
use Rattle.std.specs.List.{Contains}
use Rattle.clause_tidy.specs.Looks.{HasWholesOf}
use Rattle.clause_tidy.proofs.look.Look.find_in.Given as goal

-- those among the first ones are found
abbrev pub invariant-loop-clause : goal.invariant-loop-clause
invariant-loop-clause l = HasWholesOf l.arena l.self.part (Contains (take l.clause-index l.list)) l.found.items
