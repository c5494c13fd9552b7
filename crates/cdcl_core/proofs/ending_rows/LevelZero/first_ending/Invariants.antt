use Rattle.cdcl_core.specs.Refuting.{NoneEnds}
use Rattle.cdcl_core.proofs.ending_rows.LevelZero.first_ending.Given as goal

-- no row's clause would end the log before this place
abbrev pub invariant-loop-place : goal.invariant-loop-place
invariant-loop-place g l = NoneEnds l.self.formula.now.constraints l.self.state.now (g.P.ParityEngine.state l.self.engine.now) l.place
