use Rattle.std.proofs.Common.{◌≡◌, drop}
use Rattle.proof_rules.specs.Kinds.{all_named}
use Rattle.proof_rules.proofs.chain.are_named.Given as goal

abbrev pub invariant-loop-hint : goal.invariant-loop-hint
invariant-loop-hint l = all_named l.live.clauses (drop l.hint-index l.hints) ≡ all_named l.live.clauses l.hints
