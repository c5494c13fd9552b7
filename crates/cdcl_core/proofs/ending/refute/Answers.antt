use Rattle.cdcl_core.proofs.ending.refute.Goals as goal

pub tell_empty-requires-clause-shown : goal.tell_empty-requires-clause-shown
tell_empty-requires-clause-shown g c = c.requires.shown c.in_ok-hints.hints c.in_ok-hints.ensures
