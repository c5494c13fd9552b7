use Rattle.std.proofs.Common.{◌≡◌, take}
use Rattle.std.specs.List.{list_any}
use Rattle.cx_base.specs.Integers.{is_negative}
use Rattle.proof_rules.proofs.hints.any_negative.Given as goal

abbrev pub invariant-loop-hint : goal.invariant-loop-hint
invariant-loop-hint l = l.some ≡ list_any is_negative (take l.hint-index l.hints)
