use Rattle.std.proofs.Common.{take}
use Rattle.std.specs.List.{All}
use Rattle.tidy_rules.specs.Parts.{BearsOnPart}
use Rattle.tidy_rules.proofs.finding.untidy_at.Given as goal

-- none of the first ones bears on it
abbrev pub invariant-loop-other : goal.invariant-loop-other
invariant-loop-other l = All (λ q. BearsOnPart l.arena q l.part → ⊥) (take l.other-index l.parts)
