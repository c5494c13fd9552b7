use Rattle.std.proofs.Common.{subst}
use Rattle.std.specs.Prelude.{MatchBool}
use Rattle.plain_tests.specs.Marking.{moment_of, IsKnownUnit}
use Rattle.plain_tests.proofs.MarkingLaws.{told_as, known_part, part_known}
use Rattle.plain_tests.proofs.fitting.is_known.Goals as goal

pub returns : goal.returns
returns c =
    let m = moment_of c.args.told.now in
    let lits = c.args.lits.now in
    told_as c.is_part.result (known_part m lits) (part_known m lits (subst (λ b. MatchBool b (IsKnownUnit m lits) (¬ IsKnownUnit m lits)) c.if-branch.false c.in_ok-is_known_unit.ensures)) c.is_part.ensures
