use Rattle.std.proofs.Common.{take}
use Rattle.std.specs.List.{All}
use Rattle.tidy_rules.specs.Parts.{IsTidyBeside}
use Rattle.tidy_rules.proofs.finding.first_untidy.Given as goal

abbrev pub invariant-loop-part : goal.invariant-loop-part
invariant-loop-part l = All (IsTidyBeside l.arena l.parts) (take l.part-index l.parts)
