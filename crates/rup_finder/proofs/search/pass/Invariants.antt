use Rattle.std.proofs.Common.{drop}
use Rattle.rup_finder.specs.Saturation.{HasPassed}
use Rattle.rup_finder.proofs.search.pass.Given as goal

abbrev pub invariant-loop-id : goal.invariant-loop-id
invariant-loop-id l = HasPassed l.live.clauses l.ids (drop l.id-index l.ids) l.id-index l.initial.reached l.reached l.later.items
