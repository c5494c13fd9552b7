use Rattle.std.proofs.Common.{◌≡◌, drop}
use Rattle.std.specs.List.{list_any}
use Rattle.proof_rules.specs.Exclusions.{is_outside}
use Rattle.cx_semantics.specs.Tables.{named}
use Rattle.proof_rules.proofs.clauses_parity.any_outside.Given as goal

abbrev pub invariant-loop-id : goal.invariant-loop-id
invariant-loop-id l = list_any (is_outside l.sum.variables) (named l.live.clauses (drop l.id-index l.ids)) ≡ list_any (is_outside l.sum.variables) (named l.live.clauses l.ids)
