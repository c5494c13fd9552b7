-- What a tidying leaves of the log of a search, and what came of it.
use Rattle.std.proofs.Common.{◌≡◌, refl, sym, ap, ◌∙◌, subst, ℕ, ◌+◌, ◌≤◌, Bool, true, true≢false, List, [], ◌∷◌, ◌++◌, append_assoc, length, map, Option, Some, None, is_some, Ok, Err, inl, inr, arith}
use Rattle.std.specs.Prelude.{IsTrue}
use Rattle.std.specs.List.{AllByRecursion}
use Rattle.std.proofs.lemmas.List.Elements.{filter_map-append}
use Rattle.std.proofs.lemmas.List.{map-append}
use Rattle.cx_base.specs.Assumptions.{IsFailed}
use Rattle.cx_base.specs.Literals.{Literal}
use Rattle.cx_base.specs.Problem.{Problem}
use Rattle.cx_base.specs.Events.{step_of, steps_of}
use Rattle.cx_base.specs.declared.steps.LogEvent.{LogEvent}
use Rattle.cx_base.specs.declared.steps.LogEvent.TheVariants.{Step}
use Rattle.cx_base.specs.declared.steps.LogStep.{LogStep}
use Rattle.cx_semantics.specs.Chain.{negations}
use Rattle.cx_semantics.specs.Ids.{HasLowId, highest_id, id_of}
use Rattle.cx_semantics.specs.Judging.{IsRight, Runs}
use Rattle.cx_semantics.specs.LogRules.{after_log_step, derives_ending_clause, log_calculus}
use Rattle.cx_semantics.specs.Tables.{Tables, no_tables}
use Rattle.cx_semantics.proofs.JudgingLaws.{runs_push}
use Rattle.clause_arena.specs.Clauses.{ArenaState, IsLive, clause_at, id_at, learned_at, literals_at}
use Rattle.conflict_learn.specs.declared.fault.CoreFault.{CoreFault}
use Rattle.conflict_learn.specs.declared.fault.CoreFault.TheVariants.{Memory, Write}
use Rattle.conflict_learn.specs.Faults.{CountsAs}
use Rattle.conflict_learn.proofs.ChainOfResolutions.{by_cases}
use Rattle.parity_engine.specs.State.{State}
use Rattle.step_text.specs.declared.sink.Sink as sink
use Rattle.step_text.specs.declared.sink.SinkFault.{SinkFault}
use Rattle.step_text.specs.declared.sink.SinkFault.TheVariants as fault_of_sink
use Rattle.step_text.specs.Sinks.{HasFailedAs, OnFailed, SinkFaultsAs}
use Rattle.search_steps.specs.Holding.{AreTold}
use Rattle.search_steps.specs.LogSteps.{IsEnded}
use Rattle.search_steps.specs.Search.{Search, IsSearchIn}
use Rattle.search_steps.specs.TidySteps.{IsAtStart, steps_told}
use Rattle.search_steps.proofs.Ends.{ended_is_unmet, last_step_ends}
use Rattle.search_steps.proofs.TidySteps.{tidy_end_is_hinted, tidy_end_is_marked, tidy_end_is_scheduled, tidy_steps_end, tidy_steps_fail}
use Rattle.tidy_rules.specs.Parts.{IsPart, Tidied, lits_in}
use Rattle.tidy_rules.specs.Runs.{EndsTidily, RunsTidily}
use Rattle.tidy_rules.specs.declared.part.TidyPart.{TidyPart}
use Rattle.clause_tidy.specs.Agreeing.{Agrees, AreProper}
use Rattle.clause_tidy.specs.Answers.{EndsFrom, HasOwnId, IsRightFrom, IsTold, IsTornAfter}
use Rattle.clause_tidy.specs.Derived.{IsDerived}
use Rattle.clause_tidy.specs.Done.{AgreesAgain, ArePartsOf, IfDone, IfEnded, IsCoveredBy, IsTidied}
use Rattle.clause_tidy.specs.Taking.{IsWide}
use Rattle.clause_tidy.specs.Tidying.{IsClauseOf, WasOrCame}
use Rattle.clause_tidy.specs.declared.outcome.TidyOf.{TidyOf}
use Rattle.clause_tidy.specs.declared.outcome.TidyOf.TheVariants.{Done, Ended}
use Rattle.cdcl_search.specs.declared.logs.SearchLog.{SearchLog}
use Rattle.cdcl_search.specs.declared.state.SearchState.{SearchState}
use Rattle.cdcl_search.specs.Logs.{GoesOn}
use Rattle.cdcl_search.specs.Tells.{HasFailedBy, HaveLowIds, HasNoMark, IsLeft, IsTorn, as_events, fault_as, with_events}
use Rattle.cdcl_search.specs.Ties.{Ties, first_row_id}
use Rattle.cdcl_search.proofs.LogFronts.{steps_are_unmarked, with_low, with_no_mark}
use Rattle.cdcl_search.proofs.LowIds.{next_is_low}
use Rattle.cdcl_search.proofs.RowSteps.{all_told_are, is_left}
use Rattle.cdcl_core.specs.Concluding.{IsEndedWith}
use Rattle.cdcl_core.specs.Results.{RefutesIn}
use Rattle.cdcl_core.specs.Tidying.{IsAtRestart, StandsUnwatched, TidiesSearch}
use Rattle.cdcl_core.proofs.EndingLaws.{ends_refute}
use Rattle.cdcl_core.proofs.TidiedTies.{agrees_with, begins, can_be_watched, keeps, spares_reasons, stands_beside, tidies_on}

-- ---- faults
counts_by : (fault : SinkFault) (before now : ℕ) → SinkFaultsAs {T = TidyOf} (Err fault) before now → CountsAs (Some (fault_as fault)) before now
counts_by fault_of_sink.Memory before now h = h
counts_by fault_of_sink.Failed before now h = h

failed_by : (fault : SinkFault) (before now : Bool) → HasFailedAs {T = TidyOf} (Err fault) before now → HasFailedBy (Some (fault_as fault)) before now
failed_by fault_of_sink.Memory before now h = h
failed_by fault_of_sink.Failed before now h = h

-- ---- ids
own_are_low : (spare : ℕ) (a : ArenaState) (steps : List LogStep) → AllByRecursion (HasOwnId spare a) steps → spare ≤ highest_id → ((r : ℕ) → IsLive a r → id_at a r ≤ highest_id) → AllByRecursion HasLowId (as_events steps)
own_are_low spare a [] own high low = tt
own_are_low spare a (step ∷ steps) own high low = (own_is_low spare a step own.0 high low, own_are_low spare a steps own.1 high low)
  where
    own_is_low : (spare : ℕ) (a : ArenaState) (step : LogStep) → HasOwnId spare a step → spare ≤ highest_id → ((r : ℕ) → IsLive a r → id_at a r ≤ highest_id) → id_of step ≤ highest_id
    own_is_low spare a step (inl is) high low = subst (λ n. n ≤ highest_id) (sym is) high
    own_is_low spare a step (inr (r, live, is)) high low = subst (λ n. n ≤ highest_id) is (low r live)

-- ---- a step more
module _ (formula : Problem) (parities : List (List Literal)) (s : Search) (ok : IsSearchIn true formula parities s) where
  steps_then : (step : LogStep) → steps_of (s.events ++ Step step ∷ []) ≡ steps_of s.events ++ step ∷ []
  steps_then step = filter_map-append step_of s.events (Step step ∷ [])

  one_more_is_left : (step : LogStep) → IsRight (log_calculus formula) s.moment.tables step → IsLeft formula (Some (s.events ++ Step step ∷ []))
  one_more_is_left step is_right = by_cases (derives_ending_clause formula step)
      (λ ends. inr (last_step_ends formula parities s ok step is_right ends))
      (λ goes. inl (
        ok.log.apart,
        (
          after_log_step s.moment.tables step,
          subst (λ steps. Runs (log_calculus formula) no_tables steps (after_log_step s.moment.tables step)) (sym (steps_then step))
              (runs_push (log_calculus formula) no_tables (steps_of s.events) step s.moment.tables ok.log.runs is_right goes),
        ),
      ))

module _ {L : Type 0} (m : sink.Ghosts L LogEvent) (old new : SearchLog L) (formula_is : new.formula.now ≡ old.formula.now) (name_is : new.sink.ghost_name ≡ old.sink.ghost_name) (frame : m.keeps old.sink.now new.sink.now)
    (c : SearchState) (e : State) (stands : StandsUnwatched old.formula.now c e (m.items old.sink.now)) (proper : AreProper old.formula.now c.arena) (at : IsAtRestart c) where
  abbrev formula : Problem
  formula = old.formula.now

  abbrev a : ArenaState
  a = c.arena

  abbrev s : Search
  s = stands.0

  abbrev ok : IsSearchIn c.tidies formula e.parities s
  ok = stands.1

  abbrev t : Ties formula c e [] s
  t = stands.3

  low : c.next ≤ 1000000005000000000
  low = next_is_low formula c e (first_row_id c.next) [] s t

  agreed : Agrees highest_id s.moment.tables.clauses a
  agreed = agrees_with formula c e s ok t at highest_id (let far = low in omega (arith, far))

  ids_low : (r : ℕ) → IsLive a r → id_at a r ≤ highest_id
  ids_low r live = let small = (t.clauses.stored r live).low in let far = low in omega (arith, small, far)

  -- the calculus after steps that are right
  module _ (steps : List LogStep) (own : AllByRecursion (HasOwnId highest_id a) steps) where
    kept : (last : Tables) → RunsTidily formula s.moment.tables steps last → IsSearchIn true formula e.parities (steps_told s steps) × IsAtStart (steps_told s steps) × ((steps_told s steps).moment.tables ≡ last)
    kept last runs = keeps formula c e s ok t at highest_id agreed steps own last runs

    told_are : AreTold (with_events (as_events steps) (m.items old.sink.now)) (steps_told s steps).events
    told_are = all_told_are (as_events steps) s (m.items old.sink.now) stands.2

    left_then : (last : Tables) → RunsTidily formula s.moment.tables steps last → IsLeft formula (with_events (as_events steps) (m.items old.sink.now))
    left_then last runs = let k = kept last runs in is_left formula e.parities (steps_told s steps) (with_events (as_events steps) (m.items old.sink.now)) k.0 k.1.tidy.served told_are

    goes_on : (why : Option CoreFault) → m.items new.sink.now ≡ with_events (as_events steps) (m.items old.sink.now) → IsLeft formula (with_events (as_events steps) (m.items old.sink.now))
        → CountsAs why (m.faults old.sink.now) (m.faults new.sink.now) → HasFailedBy why (m.has_failed old.sink.now) (m.has_failed new.sink.now) → (why ≡ Some Write → IsTorn formula (m.torn new.sink.now) (m.items new.sink.now)) → GoesOn m old why new
    goes_on why told left counts failed tears = record {
      right = λ was. subst (λ f. IsLeft f (m.items new.sink.now)) (sym formula_is) (subst (IsLeft formula) (sym told) left);
      ids = λ was. subst HaveLowIds (sym told) (with_low (m.items old.sink.now) (as_events steps) (own_are_low highest_id a steps own (omega arith) ids_low) was);
      counts = counts;
      failed = failed;
      marks = λ settled none. subst HasNoMark (sym told) (with_no_mark (m.items old.sink.now) (as_events steps) (steps_are_unmarked steps) none);
      tears = λ why_is. subst (λ f. IsTorn f (m.torn new.sink.now) (m.items new.sink.now)) (sym formula_is) (tears why_is);
      formula = formula_is;
      sink = name_is;
      frame = frame;
    }

    -- a step that was torn after them
    torn_is_left : (o : Option (List LogEvent)) → AreTold o (steps_told s steps).events → (last : Tables) → RunsTidily formula s.moment.tables steps last → (step : LogStep) → IsRight (log_calculus formula) last step → IsLeft formula (with_events (Step step ∷ []) o)
    torn_is_left None are last runs step is_right = tt
    torn_is_left (Some es) are last runs step is_right =
        let k = kept last runs in
        subst (λ xs. IsLeft formula (Some (xs ++ Step step ∷ []))) (sym are)
        (one_more_is_left formula e.parities (steps_told s steps) k.0 step (subst (λ tables. IsRight (log_calculus formula) tables step) (sym k.2) is_right))

    torn_then : m.items new.sink.now ≡ with_events (as_events steps) (m.items old.sink.now) → IsTornAfter m formula highest_id a new.sink.now steps → IsTorn formula (m.torn new.sink.now) (m.items new.sink.now)
    torn_then told (step, torn, text, own_id, follows) =
        let f = follows s.moment.tables agreed in (
          Step step,
          torn,
          record {
            text = text;
            id = (own_are_low highest_id a (step ∷ []) (own_id, tt) (omega arith) ids_low).0;
            right = subst (λ o. IsLeft formula (with_events (Step step ∷ []) o)) (sym told) (torn_is_left (with_events (as_events steps) (m.items old.sink.now)) told_are f.0 f.1 step f.2);
            unmarked = λ settled. refl;
          },
        )

    -- steps that end the log
    module _ (lits : List Literal) (ends : EndsTidily formula s.moment.tables lits steps) where
      ended : IsEnded formula (s.events ++ map Step steps)
      ended = tidy_steps_end formula e.parities s (tidies_on formula c e s ok t at) (begins formula c e s ok t at) lits steps ends (spares_reasons formula c e s ok t at highest_id agreed steps own)

      fails : IsFailed formula (negations lits)
      fails = tidy_steps_fail formula e.parities s (tidies_on formula c e s ok t at) (begins formula c e s ok t at) lits steps ends (spares_reasons formula c e s ok t at highest_id agreed steps own)

      ended_with : (o : Option (List LogEvent)) → AreTold o s.events → IsEndedWith true formula s.conflicts (negations lits) (with_events (as_events steps) o)
      ended_with None are = tt
      ended_with (Some es) are = subst (λ xs. IsEndedWith true formula s.conflicts (negations lits) (Some (xs ++ as_events steps))) (sym are) (
        record {
          ended = ended;
          last = λ apart. (
            s.events ++ as_events ends.before,
            ends.step,
            ap (λ xs. s.events ++ xs) (ap (map Step) ends.split ∙ map-append Step ends.before (ends.step ∷ [])) ∙ sym (append_assoc s.events (map Step ends.before) (Step ends.step ∷ [])),
            ap negations (sym ends.adds),
          );
        },
        tidy_end_is_marked formula e.parities s (tidies_on formula c e s ok t at) (begins formula c e s ok t at) lits steps ends (spares_reasons formula c e s ok t at highest_id agreed steps own),
        tidy_end_is_scheduled formula e.parities s (tidies_on formula c e s ok t at) (begins formula c e s ok t at) lits steps ends (spares_reasons formula c e s ok t at highest_id agreed steps own),
        tidy_end_is_hinted formula e.parities s (tidies_on formula c e s ok t at) (begins formula c e s ok t at) lits steps ends (spares_reasons formula c e s ok t at highest_id agreed steps own),
        tt,
      )

      ended_is_left : (o : Option (List LogEvent)) → AreTold o s.events → IsLeft formula (with_events (as_events steps) o)
      ended_is_left None are = tt
      ended_is_left (Some es) are = subst (λ xs. IsLeft formula (Some (xs ++ as_events steps))) (sym are) (inr ended)

      refutes : RefutesIn c.tidies formula (c.conflicts + 1) (with_events (as_events steps) (m.items old.sink.now)) (negations lits)
      refutes = ends_refute c.tidies formula c.conflicts (negations lits) (with_events (as_events steps) (m.items old.sink.now)) (ended_is_unmet formula (s.events ++ map Step steps) ended) fails ok.log.apart
          (subst (λ x. IsEndedWith x formula c.conflicts (negations lits) (with_events (as_events steps) (m.items old.sink.now))) (sym at.tidies)
          (subst (λ n. IsEndedWith true formula n (negations lits) (with_events (as_events steps) (m.items old.sink.now))) t.counts.marked (ended_with (m.items old.sink.now) stands.2)))

  -- ---- a fault
  pub fault_goes_on : (fault : SinkFault) → IsTold m highest_id a old.sink.now (IsRightFrom formula highest_id a) new.sink.now → OnFailed {T = TidyOf} (Err fault) (IsTold m highest_id a old.sink.now (IsTornAfter m formula highest_id a new.sink.now) new.sink.now)
      → SinkFaultsAs {T = TidyOf} (Err fault) (m.faults old.sink.now) (m.faults new.sink.now) → HasFailedAs {T = TidyOf} (Err fault) (m.has_failed old.sink.now) (m.has_failed new.sink.now) → GoesOn m old (Some (fault_as fault)) new
  fault_goes_on fault (steps, told, own, right) torn counts failed =
      let r = right s.moment.tables agreed in
      goes_on steps own (Some (fault_as fault)) told (left_then steps own r.0 r.1) (counts_by fault (m.faults old.sink.now) (m.faults new.sink.now) counts) (failed_by fault (m.has_failed old.sink.now) (m.has_failed new.sink.now) failed) (tears fault torn)
    where
      memory : Some Memory ≡ Some Write → IsTorn formula (m.torn new.sink.now) (m.items new.sink.now)
      memory why = absurd (let f : Memory ≡ Write = cc (why) in cc (f))

      tears : (x : SinkFault) → OnFailed {T = TidyOf} (Err x) (IsTold m highest_id a old.sink.now (IsTornAfter m formula highest_id a new.sink.now) new.sink.now) → Some (fault_as x) ≡ Some Write → IsTorn formula (m.torn new.sink.now) (m.items new.sink.now)
      tears fault_of_sink.Memory h why = memory why
      tears fault_of_sink.Failed (more, told_more, own_more, after) why = torn_then more own_more told_more after

  -- ---- an answer
  no_tear : {X : Type 0} → (let none : Option CoreFault = None in none) ≡ Some Write → X
  no_tear why = absurd (true≢false (sym (ap is_some why)))

  module _ (b : ArenaState) where
    pub ok_goes_on : (o : TidyOf) → IfDone (Ok o) (λ units ids. IsTold m highest_id a old.sink.now (AgreesAgain formula highest_id a b units ids) new.sink.now) → IfEnded (Ok o) (λ lits. IsTold m highest_id a old.sink.now (EndsFrom formula highest_id a lits) new.sink.now)
        → m.faults new.sink.now ≡ m.faults old.sink.now → m.has_failed new.sink.now ≡ m.has_failed old.sink.now → GoesOn m old None new
    ok_goes_on (Done units ids) (steps, told, own, again) none counts failed =
        let r = again.1 s.moment.tables agreed in
        goes_on steps own None told (left_then steps own r.0 r.1) counts failed (λ why. no_tear why)
    ok_goes_on (Ended lits) none (steps, told, own, ends) counts failed =
        goes_on steps own None told (ended_is_left steps own lits (ends.1 s.moment.tables agreed) (m.items old.sink.now) stands.2) counts failed (λ why. no_tear why)

    pub ok_tidies : (o : TidyOf)
        → IfDone (Ok o) (λ units ids. Tidied b units)
        → IfDone (Ok o) (λ units ids. length ids ≡ length units)
        → IfDone (Ok o) (λ units ids. (r : ℕ) → IsLive a r → IsCoveredBy b units (literals_at a r) (learned_at a r))
        → IfDone (Ok o) (λ units ids. (p : TidyPart) → IsPart b units p → IsDerived (IsClauseOf a) (lits_in b p))
        → IfDone (Ok o) (λ units ids. ArePartsOf a b units ids)
        → IfDone (Ok o) (λ units ids. (q : ℕ) → IsLive b q → IsTrue (learned_at b q) → clause_at b q ≡ clause_at a q)
        → IfDone (Ok o) (λ units ids. (q : ℕ) → length a.clauses ≤ q → IsWide b q)
        → IfDone (Ok o) (λ units ids. (q : ℕ) → IsLive b q → WasOrCame formula a b q)
        → IfDone (Ok o) (λ units ids. IsTold m highest_id a old.sink.now (AgreesAgain formula highest_id a b units ids) new.sink.now)
        → IfEnded (Ok o) (λ lits. IsTold m highest_id a old.sink.now (EndsFrom formula highest_id a lits) new.sink.now)
        → TidiesSearch new.formula.now (record c { arena = b; tidy_below = length b.clauses }) e (m.items new.sink.now) o
    ok_tidies (Done units ids) tidied each covers derived parts learned wide was (steps, told, own, again) none =
        let d : IsTidied formula highest_id a b units ids steps = record { tidied = tidied; each = each; covers = covers; derived = derived; parts = parts; learned = learned; wide = wide; was = was; runs = again } in
        subst (λ f. TidiesSearch f (record c { arena = b; tidy_below = length b.clauses }) e (m.items new.sink.now) (Done units ids)) (sym formula_is)
        (subst (λ o. TidiesSearch formula (record c { arena = b; tidy_below = length b.clauses }) e o (Done units ids)) (sym told)
        (stands_beside formula c e s ok t at highest_id agreed steps own b units ids d proper (m.items old.sink.now) stands.2, each, can_be_watched formula c e s ok t at highest_id agreed steps own b units ids d proper, tidied))
    ok_tidies (Ended lits) tidied each covers derived parts learned wide was none (steps, told, own, ends) =
        subst (λ f. TidiesSearch f (record c { arena = b; tidy_below = length b.clauses }) e (m.items new.sink.now) (Ended lits)) (sym formula_is)
        (subst (λ o. TidiesSearch formula (record c { arena = b; tidy_below = length b.clauses }) e o (Ended lits)) (sym told) (refutes steps own lits (ends.1 s.moment.tables agreed)))
