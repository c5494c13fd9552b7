use Rattle.std.proofs.Common.{subst}
use Rattle.cdcl_search.specs.Finds.{PropagationFinds}
use Rattle.cdcl_core.proofs.analyser.Analyser.refute.Goals as goal

pub first_ending-requires-clause-sound : goal.first_ending-requires-clause-sound
first_ending-requires-clause-sound g c = c.requires.at.stands.3.trail.follows.sound

pub first_ending-requires-clause-reasons : goal.first_ending-requires-clause-reasons
first_ending-requires-clause-reasons g c = c.requires.at.stands.3.reasons

pub refute_clause-requires-clause-found : goal.refute_clause-requires-clause-found
refute_clause-requires-clause-found g c = subst (PropagationFinds c.args.self.now.state.now (g.P.ParityEngine.state c.args.self.now.engine.now)) c.in-Clause.is c.requires.found

pub refute_row-requires-clause-clash : goal.refute_row-requires-clause-clash
refute_row-requires-clause-clash g c = (subst (PropagationFinds c.args.self.now.state.now (g.P.ParityEngine.state c.args.self.now.engine.now)) c.in-Row.is c.requires.found).1

pub unreachable-requires : goal.unreachable-requires
unreachable-requires g c = c.requires.conflict c.in-Quiet.is

pub refute_clause-requires-clause-at : goal.refute_clause-requires-clause-at
refute_clause-requires-clause-at g c = c.requires.at

pub refute_row-requires-clause-at : goal.refute_row-requires-clause-at
refute_row-requires-clause-at g c = c.requires.at
