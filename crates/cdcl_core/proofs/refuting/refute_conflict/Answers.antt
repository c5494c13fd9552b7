use Rattle.std.proofs.Common.{rules}
use Rattle.cdcl_core.proofs.RefutedLaws.{clear_at, ends_at}
use Rattle.cdcl_core.proofs.refuting.refute_conflict.Goals as goal

pub refute-requires-clause-at : goal.refute-requires-clause-at
refute-requires-clause-at g c = record { stands = c.requires.ready.stands; level = c.requires.level; clear = c.requires.ready.clear; going = c.requires.ready.going }

pub returns-clause-ends : goal.returns-clause-ends
returns-clause-ends g c = ends_at g.L.Sink c.args.log.now c.args.state.now c.refute.result c.refute.new.self.log.now _ (search rules) c.refute.ensures.ends

pub returns-clause-none : goal.returns-clause-none
returns-clause-none g c = c.refute.ensures.none

pub returns-clause-clear : goal.returns-clause-clear
returns-clause-clear g c = clear_at c.refute.result c.refute.new.self.marks.now _ (search rules) c.refute.ensures.clear
