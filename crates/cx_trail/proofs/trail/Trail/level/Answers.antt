use Rattle.cx_trail.proofs.FrontLaws.{sound_shown}
use Rattle.cx_trail.proofs.trail.Trail.level.Goals as goal

pub returns-clause-sound : goal.returns-clause-sound
returns-clause-sound c = sound_shown _ _ _ _ _ _ c.self.invariant _ c.self.view_is
