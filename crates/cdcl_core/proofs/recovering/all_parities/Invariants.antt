use Rattle.std.proofs.Common.{◌≡◌, ◌++◌, take, None}
use Rattle.cx_base.specs.Problem.{parities_of}
use Rattle.cdcl_search.specs.Logs.{GoesOn}
use Rattle.cdcl_core.specs.Given.{HasGiven}
use Rattle.cdcl_core.proofs.GivenLaws.{parities_found}
use Rattle.cdcl_core.proofs.recovering.all_parities.Given as goal

-- the finds before this place are told
abbrev pub invariant-loop-place : goal.invariant-loop-place
invariant-loop-place g l = record {
  given : HasGiven l.fn.log.formula.now l.parities.items (g.L.Sink.items l.log.sink.now);
  are : l.parities.items ≡ parities_of l.fn.log.formula.now.constraints ++ parities_found (take l.place l.finds.items);
  log : GoesOn g.L.Sink l.fn.log None l.log;
}
