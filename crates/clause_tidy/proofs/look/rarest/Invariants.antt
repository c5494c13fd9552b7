use Rattle.std.proofs.Common.{◌<◌, length}
use Rattle.clause_tidy.specs.Looks.{HasChosenAt}
use Rattle.clause_tidy.proofs.look.rarest.Given as goal

-- what was found has a chosen variable
abbrev pub invariant-loop-place : goal.invariant-loop-place
invariant-loop-place l = l.rarest < length l.lits → HasChosenAt l.chosen l.lits l.rarest
