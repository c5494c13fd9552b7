-- What a conflict teaches, and what the sink is told of it.
use Rattle.std.proofs.Common.{◌≡◌, sym, ap, ◌∙◌, subst, ℕ, ◌+◌, ◌<◌, ◌≤◌, ◌^◌, ℤ, pos, true, false, ◌||◌, List, [], ◌∷◌, ◌++◌, length, Some, None, Option, Result, IfOk, append-nil, append_assoc}
use Rattle.cx_base.specs.Literals.{Literal, negate}
use Rattle.cx_base.specs.Assumptions.{assumes, is_ending}
use Rattle.cx_base.proofs.LiteralLaws.{negate-negate, same_literal-itself}
use Rattle.cdcl_search.proofs.EndingClauses.{not_ending}
use Rattle.cdcl_core.specs.Failing.{IsFree}
use Rattle.cx_base.specs.Problem.{Problem, AreWithin}
use Rattle.cx_semantics.specs.Ids.{highest_id}
use Rattle.cx_base.specs.declared.steps.LogStep.TheVariants.{ClauseWithHints, Delete}
use Rattle.cx_base.specs.declared.steps.LogEvent.{LogEvent}
use Rattle.cx_base.specs.declared.steps.LogEvent.TheVariants.{Step, Conflict}
use Rattle.cx_base.specs.Integers.{integers_of, literals}
use Rattle.cx_trail.specs.Sequence.{TrailState, IsTrueIn}
use Rattle.conflict_learn.specs.declared.fault.CoreFault.{CoreFault}
use Rattle.conflict_learn.specs.declared.learning.Learned.{Learned}
use Rattle.conflict_learn.specs.declared.learning.Resolved.{Resolved}
use Rattle.conflict_learn.specs.Levels.{Teaches}
use Rattle.conflict_learn.specs.Learning.{IsOfLevel, literal_at, literals_of, negated_at}
use Rattle.conflict_learn.specs.Touching.{AreTouched}
use Rattle.cx_semantics.specs.Chain.{has_literal}
use Rattle.search_steps.proofs.CodeSteps.{clause_conflict_is_now}
use Rattle.search_steps.proofs.Bridge.{level_tied}
use Rattle.parity_engine.specs.State.{State}
use Rattle.search_steps.specs.Hints.{AreHintsFor, hints_from}
use Rattle.search_steps.specs.Search.{Search, told}
use Rattle.search_steps.specs.LogSteps.{deleted, after_learned, after_round}
use Rattle.search_steps.specs.Holding.{AreTold}
use Rattle.search_steps.proofs.LearnedLaws.{followed_is_hinted}
use Rattle.search_steps.proofs.OverSearch.{taught_by_search}
use Rattle.cdcl_search.specs.declared.state.SearchState.{SearchState}
use Rattle.cdcl_search.specs.Ties.{first_row_id, row_ids, SearchStands}
use Rattle.cdcl_search.specs.Sources.{IsSourcedBy}
use Rattle.std.specs.Prelude.{Ok, Err, OnOk, IsTrue}
use Rattle.cdcl_search.specs.declared.logs.SearchLog.{SearchLog}
use Rattle.cdcl_search.specs.Tells.{IsLeft, with_events}
use Rattle.cdcl_search.proofs.IntegerLaws.{all_spelt}
use Rattle.cdcl_search.proofs.RowSteps.{is_left}
use Rattle.cdcl_search.specs.Deleting.{deletions}
use Rattle.cdcl_search.proofs.SourceLaws.{sourced_is_live, sourced_is_named}
use Rattle.cdcl_core.specs.Learning.{IsTaught, Learns, IsLesson}
use Rattle.cdcl_core.proofs.Entering.{below_first, negated_within, round_is_search, tidy}
use Rattle.cdcl_core.specs.Concluding.{IsConflictClause}

-- ---- what deletions tell
deleted_events : (s : Search) (ids : List ℕ) → (deleted s ids).events ≡ s.events ++ deletions ids
deleted_events s [] = sym (append-nil s.events)
deleted_events s (n ∷ ids) = deleted_events (told s (Step (Delete n []))) ids ∙ append_assoc s.events (Step (Delete n []) ∷ []) (deletions ids)

module _ (formula : Problem) (c : SearchState) (e : State) (rows : List (List Literal)) (old : Option (List LogEvent)) (st : SearchStands formula c e rows old)
    (above : 0 < c.trail.level) (room : c.next ≤ highest_id) (few : c.conflicts < 10 ^ 18)
    (conflict : List Literal) (k : ℕ) (is_conflict : IsConflictClause c rows conflict k) (resolved : List Resolved) (lits : List Literal) (back lbd : ℕ) (teaches : Teaches c.trail conflict (IsSourcedBy c rows) resolved lits back lbd)
    (free : IsFree formula.constraints c.trail) where
  abbrev s : Search
  s = st.0

  -- the first literal is the negation of one of the current level, which isn't assumed
  abbrev at : Literal
  at = literal_at c.trail teaches.learned.first

  goes_on : is_ending formula.constraints lits ≡ false
  goes_on = not_ending formula.constraints lits (negate at)
      (ap (λ ls. has_literal ls (negate at)) teaches.learned.are ∙ ap (λ b. b || has_literal (negated_at c.trail teaches.learned.rest) (negate at)) (same_literal-itself (negate at)))
      (ap (assumes formula.constraints) (negate-negate at) ∙ free teaches.learned.first teaches.learned.within teaches.learned.first_level)

  pub is_taught : literals (integers_of lits) ≡ lits → IsTaught formula c e lits back st.0
  is_taught integers =
      let first = taught_by_search formula e.parities st.0 st.1 c.trail st.3.trail.follows above conflict (IsSourcedBy c rows) resolved lits back lbd teaches in
      record {
        search = st.1;
        rows = rows;
        ties = st.3;
        watched = st.4;
        first = first.0;
        more = first.1;
        parts = first.2;
        learned = first.3;
        placed = record { first = teaches.learned.first; rest = teaches.learned.rest; are = teaches.learned.are; falling = teaches.learned.falling; within = teaches.learned.within; back_is = teaches.back_is };
        integers = integers;
        goes_on = goes_on;
        room = room;
        few = few;
      }

  right : AreHintsFor st.0.moment.tables.clauses lits (hints_from resolved ++ pos k ∷ [])
  right =
      let named = sourced_is_named formula c e rows st.0 st.3 in
      followed_is_hinted st.0.moment.tables.clauses c.trail (IsSourcedBy c rows) named conflict k (named conflict k is_conflict.sourced) resolved lits teaches.learned.follows

  -- the literals are those of the formula's variables
  pub within : AreWithin formula.variables lits
  within = subst (AreWithin formula.variables) (sym teaches.learned.are)
      (negated_within formula c.trail st.3.trail.variables st.3.trail.follows.sound (teaches.learned.first ∷ teaches.learned.rest)
      (teaches.learned.within, below_first c.trail teaches.learned.first teaches.learned.rest teaches.learned.within teaches.learned.falling.0))

  integers : literals (integers_of lits) ≡ lits
  integers = all_spelt formula.variables lits within

  abbrev hints : List ℤ
  hints = hints_from resolved ++ pos k ∷ []

  abbrev then : Search
  then = after_round st.0 c.next (integers_of lits) hints back (is_taught integers).first

  abbrev more : List LogEvent
  more = Step (ClauseWithHints c.next (integers_of lits) hints) ∷ deletions (row_ids (first_row_id c.next) (length rows))

  events_then : then.events ≡ st.0.events ++ Conflict (c.conflicts + 1) ∷ more
  events_then =
      let s1 = after_learned st.0 c.next (integers_of lits) hints back in
      deleted_events s1 st.0.moment.new_clauses
      ∙ append_assoc (st.0.events ++ Conflict (st.0.conflicts + 1) ∷ []) (Step (ClauseWithHints c.next (integers_of lits) hints) ∷ []) (deletions st.0.moment.new_clauses)
      ∙ append_assoc st.0.events (Conflict (st.0.conflicts + 1) ∷ []) (Step (ClauseWithHints c.next (integers_of lits) hints) ∷ deletions st.0.moment.new_clauses)
      ∙ ap (λ m. st.0.events ++ Conflict (m + 1) ∷ Step (ClauseWithHints c.next (integers_of lits) hints) ∷ deletions st.0.moment.new_clauses) st.3.counts.marked
      ∙ ap (λ ids. st.0.events ++ Conflict (c.conflicts + 1) ∷ Step (ClauseWithHints c.next (integers_of lits) hints) ∷ deletions ids) st.3.log.served.new_clauses

  told_then : (o : Option (List LogEvent)) → AreTold o st.0.events → AreTold (with_events (Conflict (c.conflicts + 1) ∷ more) o) then.events
  told_then None a = tt
  told_then (Some es) a = ap (λ xs. xs ++ Conflict (c.conflicts + 1) ∷ more) a ∙ sym events_then

  pub learns_then : (new : Option (List LogEvent)) → new ≡ with_events (Conflict (c.conflicts + 1) ∷ more) old → Learns formula c e lits back new
  learns_then new is = record { search = st.0; taught = is_taught integers; hints = hints; right = right; told_is = subst (λ o. AreTold o then.events) (sym is) (told_then old st.2) }

-- what a conflict taught leaves the log right
pub learned_is_left : (formula : Problem) (c : SearchState) (e : State) (lits : List Literal) (back : ℕ) (told : Option (List LogEvent)) → Learns formula c e lits back told → IsLeft formula told
learned_is_left formula c e lits back told h =
    is_left formula e.parities (after_round h.search c.next (integers_of lits) h.hints back h.taught.first) told (round_is_search formula c e lits back h.search h.taught h.hints h.right)
    (tidy formula c e lits back h.search h.taught h.hints).served h.told_is

-- the conflict has a literal of the current level
pub conflict_is_now : (formula : Problem) (c : SearchState) (e : State) (rows : List (List Literal)) (old : Option (List LogEvent)) → SearchStands formula c e rows old → 0 < c.trail.level → (conflict : List Literal) (k : ℕ) → IsConflictClause c rows conflict k
    → (m : Literal) × (has_literal conflict m ≡ true) × IsOfLevel c.trail m c.trail.level
conflict_is_now formula c e rows old st above conflict k is =
    clause_conflict_is_now formula e.parities st.0 st.1 c.trail st.3.trail.follows above (st.3.levels ∙ level_tied st.0.trail c.trail st.3.trail.follows.tied st.3.trail.follows.sound)
    conflict (sourced_is_live formula c e rows st.0 st.3 conflict k is.sourced)

-- ---- an analysis, by the values at which what it was lent ends
pub stands_at : {L T : Type 0} (events : L → Option (List LogEvent)) (r : Result T CoreFault) (c k : SearchState) (e d : State) (rows last : List (List Literal)) (log end : SearchLog L) → k ≡ c → d ≡ e → last ≡ rows → end ≡ log
    → OnOk r (SearchStands log.formula.now k d rows (events log.sink.now)) → OnOk r (SearchStands end.formula.now c e last (events end.sink.now))
stands_at events r c k e d rows last log end same_kept same_engine same_rows same_log h = subst (λ l. OnOk r (SearchStands l.formula.now c e last (events l.sink.now))) (sym same_log)
    (subst (λ rs. OnOk r (SearchStands log.formula.now c e rs (events log.sink.now))) (sym same_rows)
    (subst (λ x. OnOk r (SearchStands log.formula.now c x rows (events log.sink.now))) same_engine
    (subst (λ x. OnOk r (SearchStands log.formula.now x d rows (events log.sink.now))) same_kept h)))

pub conflict_at : (c : SearchState) (conflict : List Literal) (n : ℕ) (rows last : List (List Literal)) → last ≡ rows → IsConflictClause c rows conflict n → IsConflictClause c last conflict n
conflict_at c conflict n rows last same h = subst (λ rs. IsConflictClause c rs conflict n) (sym same) h

pub teaches_at : (r : Result Learned CoreFault) (c : SearchState) (trail : TrailState) (conflict : List Literal) (rows last : List (List Literal)) → last ≡ rows
    → IfOk r (λ x. Teaches trail conflict (IsSourcedBy c rows) x.resolved.items x.lits x.back_level x.lbd) → IfOk r (λ x. Teaches trail conflict (IsSourcedBy c last) x.resolved.items x.lits x.back_level x.lbd)
teaches_at r c trail conflict rows last same h = subst (λ rs. IfOk r (λ x. Teaches trail conflict (IsSourcedBy c rs) x.resolved.items x.lits x.back_level x.lbd)) (sym same) h

pub lesson_by : (r : Result Learned CoreFault) (c : SearchState) (conflict : List Literal) (rows : List (List Literal)) → IfOk r (λ x. Teaches c.trail conflict (IsSourcedBy c rows) x.resolved.items x.lits x.back_level x.lbd)
    → IfOk r (λ x. (l : Literal) → IsTrue (has_literal (literals_of x.resolved.items) l) → IsTrueIn c.trail.entries l) → IfOk r (λ x. AreTouched c.trail (literals_of x.resolved.items) x.lits x.touched.items) → IfOk r (IsLesson c rows conflict)
lesson_by (Ok x) c conflict rows teaches stand touched = record { teaches = teaches; stand = stand; touched = touched }
lesson_by (Err fault) c conflict rows teaches stand touched = tt
