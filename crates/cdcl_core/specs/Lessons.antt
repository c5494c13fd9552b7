-- What is told of a learned clause.
use Rattle.std.specs.Prelude.{pos, List, [], ◌∷◌, ◌++◌, length}
use Rattle.std.specs.List.{Contains}
use Rattle.cx_base.specs.Integers.{integers_of}
use Rattle.cx_base.specs.declared.steps.LogEvent.{LogEvent}
use Rattle.cx_base.specs.declared.steps.LogEvent.TheVariants.{Step, Conflict}
use Rattle.cx_base.specs.declared.steps.LogStep.TheVariants.{ClauseWithHints}
use Rattle.conflict_learn.specs.declared.learning.Resolved.{Resolved}
use Rattle.search_steps.specs.Hints.{hints_from}
use Rattle.cdcl_search.specs.Deleting.{deletions}
use Rattle.cdcl_search.specs.Tells.{IsId, AreIdsFrom}
use Rattle.cdcl_search.specs.Ties.{first_row_id, row_ids}
use Rattle.cdcl_core.specs.declared.learning.UnmadeLesson.{UnmadeLesson}

-- the learned clause with its hints, and the deletions of the clauses of rows
abbrev pub events_after_mark : UnmadeLesson → List LogEvent
events_after_mark l = Step (ClauseWithHints l.id (integers_of l.learned.now.lits) (hints_from l.learned.now.resolved.items ++ pos l.conflict.now.id ∷ [])) ∷ deletions (row_ids (first_row_id l.id) (length l.conflict.now.rows))

-- these, after the mark of the conflict
abbrev pub lesson_events : UnmadeLesson → List LogEvent
lesson_events l = Conflict l.number ∷ events_after_mark l

-- its steps may have the ids that they give and name
pub record HasStepIds (l : UnmadeLesson) : Type 0 where
  pub resolved : (r : Resolved) → Contains l.learned.now.resolved.items r → IsId r.id
  pub conflict : IsId l.conflict.now.id
  pub own : IsId l.id
  pub rows : AreIdsFrom (first_row_id l.id) (length l.conflict.now.rows)
