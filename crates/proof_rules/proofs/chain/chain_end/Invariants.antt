use Rattle.std.proofs.Common.{drop, Option}
use Rattle.proof_rules.specs.declared.chain.End.{End}
use Rattle.proof_rules.specs.Ends.{EndsAs}
use Rattle.proof_rules.proofs.chain.chain_end.Given as goal

abbrev pub invariant-loop-place : goal.invariant-loop-place
invariant-loop-place l = (end : Option End) → EndsAs l.live.clauses l.assumed (drop l.place l.hints) end → EndsAs l.live.clauses l.initial.assumed l.hints end
