use Rattle.std.proofs.Common.{◌≡◌, drop}
use Rattle.cx_semantics.specs.Tables.{named}
use Rattle.proof_rules.specs.Sums.{plus_all}
use Rattle.proof_rules.proofs.sum.add_named.Given as goal

abbrev pub invariant-loop-id : goal.invariant-loop-id
invariant-loop-id l = plus_all l.sum (named l.live.parities (drop l.id-index l.ids)) ≡ plus_all l.initial.sum (named l.live.parities l.ids)
