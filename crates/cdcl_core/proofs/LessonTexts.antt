-- A text can have what is told of a learned clause.
use Rattle.std.proofs.Common.{◌≡◌, ◌≢◌, ◌∙◌, ap, sym, subst, ℕ, ◌<◌, ◌≤◌, ◌^◌, pos, nat_abs, List, [], ◌∷◌, ◌++◌, length, map, Contains, Option, arith}
use Rattle.std.specs.Prelude.{reverse}
use Rattle.std.proofs.lemmas.List.{map-append, reverse-append}
use Rattle.cx_base.specs.Integers.{integers_of}
use Rattle.cx_base.specs.Numbers.{AreStepIntegers}
use Rattle.cx_base.specs.Problem.{Problem}
use Rattle.cx_base.specs.declared.steps.LogEvent.{LogEvent}
use Rattle.cx_base.proofs.Elements.{all_push, in_head, in_tail}
use Rattle.conflict_learn.specs.declared.learning.Resolved.{Resolved}
use Rattle.conflict_learn.specs.Learning.{Follows, ids_of}
use Rattle.parity_engine.specs.State.{State}
use Rattle.search_steps.specs.Hints.{hints_from}
use Rattle.search_steps.specs.Recovering.{SettledWithRecovered}
use Rattle.cdcl_search.specs.Sources.{IsSourcedBy}
use Rattle.cdcl_search.specs.Tells.{IsId, AreIdsFrom, AreTellable}
use Rattle.cdcl_search.specs.Ties.{SearchStands, first_row_id, row_ids}
use Rattle.cdcl_search.specs.declared.state.SearchState.{SearchState}
use Rattle.cdcl_search.proofs.LowIds.{has_ids, row_ids_are_ids}
use Rattle.cdcl_search.proofs.StepTexts.{chained_text}
use Rattle.cdcl_search.proofs.Tellables.{deletions_are_tellable, mark_and_more, row_ids_are_proper, step_and_more}
use Rattle.cdcl_core.specs.declared.learning.UnmadeLesson.{UnmadeLesson}
use Rattle.cdcl_core.specs.Lessons.{HasStepIds, lesson_events}
use Rattle.cdcl_core.proofs.HintIds.{resolved_ids}

pub hints_of_cons : (x : Resolved) (ys : List Resolved) → hints_from (x ∷ ys) ≡ hints_from ys ++ pos x.id ∷ []
hints_of_cons x ys = ap (λ rs. map pos (ids_of rs)) (reverse-append (x ∷ []) ys) ∙ ap (map pos) (map-append (λ (r : Resolved). r.id) (reverse ys) (x ∷ [])) ∙ map-append pos (ids_of (reverse ys)) (x.id ∷ [])

id_is_proper : (n : ℕ) → IsId n → (pos n ≢ pos 0) × (nat_abs (pos n) ≤ 9223372036854775807)
id_is_proper n i =
    let low = i.0 in
    let high = i.1 in
    (λ z. absurd (let none : n ≡ 0 = ap nat_abs z in omega (arith, low, none)), omega (arith, high))

hints_are_proper : (resolved : List Resolved) → ((r : Resolved) → Contains resolved r → IsId r.id) → AreStepIntegers (hints_from resolved)
hints_are_proper [] ids = tt
hints_are_proper (x ∷ ys) ids = subst AreStepIntegers (sym (hints_of_cons x ys))
    (all_push (λ z. (z ≢ pos 0) × (nat_abs z ≤ 9223372036854775807)) (hints_from ys) (pos x.id) (hints_are_proper ys (λ r at. ids r (in_tail x ys r at))) (id_is_proper x.id (ids x (in_head x ys))))

pub lesson_is_tellable : (formula : Problem) (l : UnmadeLesson) → l.number < 2 ^ 64 → ¬ SettledWithRecovered formula → AreStepIntegers (integers_of l.learned.now.lits) → HasStepIds l → AreTellable formula (lesson_events l)
lesson_is_tellable formula l fits unsettled literals ids =
    mark_and_more formula l.number _ fits unsettled
    (step_and_more formula _ _ (chained_text l.id (integers_of l.learned.now.lits) (hints_from l.learned.now.resolved.items ++ pos l.conflict.now.id ∷ []) ids.own literals
    (all_push (λ z. (z ≢ pos 0) × (nat_abs z ≤ 9223372036854775807)) (hints_from l.learned.now.resolved.items) (pos l.conflict.now.id) (hints_are_proper l.learned.now.resolved.items ids.resolved) (id_is_proper l.conflict.now.id ids.conflict)))
    (deletions_are_tellable formula (row_ids (first_row_id l.id) (length l.conflict.now.rows)) (row_ids_are_proper (first_row_id l.id) (length l.conflict.now.rows) ids.rows)))

-- what is learned from the clauses that the search holds names ids of steps
pub lesson_ids : (formula : Problem) (c : SearchState) (e : State) (l : UnmadeLesson) (old : Option (List LogEvent)) → SearchStands formula c e l.conflict.now.rows old → l.id ≡ c.next → IsId l.conflict.now.id
    → Follows c.trail l.conflict.now.lits (IsSourcedBy c l.conflict.now.rows) l.learned.now.resolved.items l.learned.now.lits → HasStepIds l
lesson_ids formula c e l old st own conflict follows = record {
  resolved = resolved_ids formula c e l.conflict.now.rows old st l.conflict.now.lits l.learned.now.resolved.items l.learned.now.lits follows;
  conflict = conflict;
  own = subst IsId (sym own) (has_ids formula c e l.conflict.now.rows old st).next;
  rows = subst (λ n. AreIdsFrom (first_row_id n) (length l.conflict.now.rows)) (sym own) (row_ids_are_ids formula c e (first_row_id c.next) l.conflict.now.rows st.0 st.3 (omega arith));
}
