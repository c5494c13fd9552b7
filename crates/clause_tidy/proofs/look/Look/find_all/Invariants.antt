use Rattle.std.proofs.Common.{◌<◌}
use Rattle.clause_tidy.specs.Looks.{HasWholesOf}
use Rattle.clause_tidy.proofs.look.Look.find_all.Given as goal

-- those among the first ones are found
abbrev pub invariant-loop-place : goal.invariant-loop-place
invariant-loop-place l = HasWholesOf l.arena l.self.part (λ q. q < l.place) l.found.items
