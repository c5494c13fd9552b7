use Rattle.std.proofs.Common.{take}
use Rattle.clause_tidy.specs.Signatures.{IsSignature}
use Rattle.clause_tidy.proofs.signatures.signature.Given as goal

-- the signature of the first ones
abbrev pub invariant-loop-lit : goal.invariant-loop-lit
invariant-loop-lit l = IsSignature l.signature (take l.lit-index l.lits)
