use Rattle.cx_texts.specs.Grammar.{id}
use Rattle.step_text.proofs.TakingLaws.{one_more, closed_ids, ids_refused}
use Rattle.step_text.proofs.fields.take_ids.Goals as goal

pub loop-name-preserved : goal.loop-name-preserved
loop-name-preserved c = rw c.in-Ok.ensures.items (one_more id _ _ _ _ _ c.loop-name.invariant (rw c.in-Ok-Some.field-0-is at c.in-Ok-Some.ensures.taken))

pub returns-in-Ok-None : goal.returns-in-Ok-None
returns-in-Ok-None c = rw c.from_vec.ensures (closed_ids _ _ _ _ c.loop-name.invariant (rw c.in-Ok-None.field-0-is at c.in-Ok-None.ensures.taken))

pub returns-in-Err : goal.returns-in-Err
returns-in-Err c = ids_refused _ _ _ _ _ c.loop-name.invariant c.in-Err.ensures.taken
