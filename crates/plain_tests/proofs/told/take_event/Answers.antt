use Rattle.plain_tests.specs.Marking.{moment_of}
use Rattle.plain_tests.proofs.MarkingLaws.{after_mark}
use Rattle.plain_tests.proofs.told.take_event.Goals as goal

pub returns-in-Conflict-clause-taken : goal.returns-in-Conflict-clause-taken
returns-in-Conflict-clause-taken c =
    after_mark c.note_mark.result (moment_of c.args.told.now) (moment_of c.note_mark.new.told) c.in-Conflict.field-0 c.args.event.now c.in-Conflict.is c.note_mark.ensures.marked
