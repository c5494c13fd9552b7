use Rattle.std.proofs.Common.{take, None}
use Rattle.cdcl_search.specs.Logs.{GoesOn}
use Rattle.cdcl_core.specs.Originals.{HasBegun, AreCounted}
use Rattle.cdcl_core.proofs.originals.tell_originals.Given as goal

-- the constraints before this place are told
abbrev pub invariant-loop-place : goal.invariant-loop-place
invariant-loop-place g l = record {
  counted : AreCounted (take l.place l.fn.log.formula.now.constraints) l.counts.clauses l.counts.parities;
  begun : HasBegun l.fn.log.formula.now (take l.place l.fn.log.formula.now.constraints) (g.L.Sink.items l.log.sink.now);
  log : GoesOn g.L.Sink l.fn.log None l.log;
}
