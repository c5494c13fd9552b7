use Rattle.std.proofs.Common.{◌≡◌, map, take}
use Rattle.cx_base.specs.Literals.{code_of}
use Rattle.proof_rules.proofs.content.fill_codes.Given as goal

abbrev pub invariant-loop-lit : goal.invariant-loop-lit
invariant-loop-lit l = l.codes.items ≡ map code_of (take l.lit-index l.lits)
