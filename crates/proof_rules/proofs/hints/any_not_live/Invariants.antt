use Rattle.std.proofs.Common.{◌≡◌, drop, not, nat_abs}
use Rattle.std.specs.List.{list_any}
use Rattle.cx_semantics.specs.Tables.{is_live}
use Rattle.proof_rules.specs.Kinds.{chosen}
use Rattle.proof_rules.proofs.hints.any_not_live.Given as goal

abbrev pub invariant-loop-hint : goal.invariant-loop-hint
invariant-loop-hint l = list_any (λ z. not (is_live (chosen l.kind l.live) (nat_abs z))) (drop l.hint-index l.hints) ≡ list_any (λ z. not (is_live (chosen l.kind l.live) (nat_abs z))) l.hints
