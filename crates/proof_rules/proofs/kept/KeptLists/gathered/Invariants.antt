use Rattle.std.proofs.Common.{take}
use Rattle.proof_rules.proofs.KeptLaws.{AreCopied}
use Rattle.proof_rules.proofs.kept.KeptLists.gathered.Given as goal

-- the lists of the ids so far
abbrev pub invariant-loop-id : goal.invariant-loop-id
invariant-loop-id l = AreCopied l.self l.gathered (take l.id-index l.id-items)
