use Rattle.std.proofs.Common.{◌≡◌, drop, not}
use Rattle.std.specs.List.{list_any}
use Rattle.cx_semantics.specs.Tables.{is_live}
use Rattle.proof_rules.specs.Kinds.{chosen}
use Rattle.proof_rules.proofs.hints.any_unknown.Given as goal

abbrev pub invariant-loop-id : goal.invariant-loop-id
invariant-loop-id l = list_any (λ n. not (is_live (chosen l.kind l.live) n)) (drop l.id-index l.ids) ≡ list_any (λ n. not (is_live (chosen l.kind l.live) n)) l.ids
