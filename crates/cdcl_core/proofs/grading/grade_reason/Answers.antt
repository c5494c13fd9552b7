use Rattle.cdcl_core.proofs.GradedTies.{graded_still}
use Rattle.cdcl_core.proofs.grading.grade_reason.Goals as goal

pub grade-requires : goal.grade-requires
grade-requires c =
    let live = c.requires.reasons c.in-Some.reference c.in-Some.ensures in
    record { live = live.0; assigned = live.1; clear = c.requires.clear }

pub returns-in-None : goal.returns-in-None
returns-in-None c = record { graded = graded_still c.args.state.now; clear = c.requires.clear }
