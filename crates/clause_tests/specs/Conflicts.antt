-- A conflict as an analysis takes it.
use Rattle.std.specs.Prelude.{◌<◌, List, IsTrue}
use Rattle.cx_base.specs.Literals.{Literal}
use Rattle.cx_semantics.specs.Chain.{has_literal}
use Rattle.cx_trail.specs.Sequence.{TrailState, IsFalseIn}
use Rattle.conflict_learn.specs.Learning.{IsOfLevel}

-- each literal is false, and one of them at the current level, which is above 0
pub record IsConflict (t : TrailState) (lits : List Literal) : Type 0 where
  pub above : 0 < t.level
  pub all_false : (m : Literal) → IsTrue (has_literal lits m) → IsFalseIn t.entries m
  pub one_now : (m : Literal) × IsTrue (has_literal lits m) × IsOfLevel t m t.level
