-- The search and its ties after the steps of a tidying.
use Rattle.std.proofs.Common.{◌≡◌, refl, sym, ap, ◌∙◌, subst, ℕ, ◌+◌, ◌<◌, ◌≤◌, true, false, true≢false, cond, List, [], ◌∷◌, ◌++◌, length, get_or, Option, Some, None, ⊎_elim, inl, inr, arith}
use Rattle.std.specs.Prelude.{IsSome, IsTrue, if◌then◌else◌}
use Rattle.std.specs.List.{AllByRecursion}
use Rattle.std.proofs.lemmas.Bool.{cases_lt}
use Rattle.cx_base.specs.Literals.{Literal, HasTwo}
use Rattle.cx_base.specs.Problem.{Problem}
use Rattle.cx_base.specs.declared.steps.LogEvent.{LogEvent}
use Rattle.cx_base.specs.declared.steps.LogEvent.TheVariants.{Step}
use Rattle.cx_base.specs.declared.steps.LogStep.{LogStep}
use Rattle.cx_base.specs.declared.steps.LogStep.TheVariants.{Original, OriginalParity, Clause, ClauseWithHints, Parity, ClauseOfParity, ParityOfClauses, Delete, DeleteParity, Final, FinalParity, MoveClauses, MoveParities}
use Rattle.cx_semantics.specs.Marked.{Moment, after_event, is_among}
use Rattle.cx_semantics.specs.Tables.{Table, Tables, get}
use Rattle.cx_semantics.proofs.Closure.{has_by_inside}
use Rattle.cx_semantics.proofs.Members.{has_at_head, has_by_index}
use Rattle.cx_trail.specs.Sequence.{entry_at}
use Rattle.clause_arena.specs.Clauses.{ArenaState, Stored, IsLive, id_in, learned_in, id_at, literals_at}
use Rattle.watch_lists.specs.Anew.{AreWatchable}
use Rattle.parity_engine.specs.State.{State}
use Rattle.search_steps.specs.Ids.{IsRanged}
use Rattle.search_steps.specs.Schedule.{IsRestart}
use Rattle.search_steps.specs.Search.{Search, IsSearchIn, told}
use Rattle.search_steps.specs.TidySteps.{IsAtStart, SpareReasons, steps_told}
use Rattle.search_steps.specs.Trail.{held, level_of}
use Rattle.search_steps.specs.Holding.{AreTold}
use Rattle.search_steps.proofs.Bridge.{level_tied}
use Rattle.search_steps.proofs.QuietLaws.{within_member}
use Rattle.search_steps.proofs.TidyCounts.{tidy_counts}
use Rattle.search_steps.proofs.TidyIds.{parities_are, tidy_ranged, tidy_frees_sums}
use Rattle.search_steps.proofs.TidySteps.{tidy_steps_keep, told_conflicts}
use Rattle.tidy_rules.specs.Runs.{IsTidyStep, NoneDeletes, RunsTidily}
use Rattle.clause_tidy.specs.Agreeing.{Agrees, AreProper}
use Rattle.clause_tidy.specs.Answers.{HasOwnId}
use Rattle.clause_tidy.specs.Done.{IsTidied}
use Rattle.clause_tidy.specs.Taking.{Lists}
use Rattle.cdcl_search.specs.declared.state.SearchState.{SearchState}
use Rattle.cdcl_search.specs.Tells.{as_events, with_events}
use Rattle.cdcl_search.specs.Ties.{AreLearned, AreUnits, ClauseTies, EngineTies, IsFallingFrom, IsNamedBy, LogTies, RestOnUnits, Ties, TrailTies, first_row_id, stretches}
use Rattle.cdcl_search.proofs.LearnedIds.{learned_are_few}
use Rattle.cdcl_search.proofs.Places.{tied_length}
use Rattle.cdcl_search.proofs.RowSteps.{all_told_are}
use Rattle.cdcl_search.proofs.TableLaws.{no_clause}
use Rattle.cdcl_core.specs.Tidying.{IsAtRestart, IsWaitingUnit, StandsBeside, TiesBeside, learned_count}
use Rattle.cdcl_core.proofs.EndingLaws.{no_newer}
use Rattle.cdcl_core.proofs.LearnedLess.{falls_without}
use Rattle.cdcl_core.proofs.TidiedClauses.{clauses_tidied, others_unit, spare_units, unit_low, unit_stays}

-- ---- what the steps leave of a search
told_trail : (s : Search) (steps : List LogStep) → (steps_told s steps).trail ≡ s.trail
told_trail s [] = refl
told_trail s (step ∷ steps) = told_trail (told s (Step step)) steps

told_levels : (s : Search) (steps : List LogStep) → (steps_told s steps).quiet_levels ≡ s.quiet_levels
told_levels s [] = refl
told_levels s (step ∷ steps) = told_levels (told s (Step step)) steps

-- no clause is owed, and the ids of learned clauses fall
record IsFalling (top : ℕ) (m : Moment) : Type 0 where
  served : m.awaits ≡ false
  falling : IsFallingFrom top m.learned

falls_by : (top : ℕ) (m : Moment) (step : LogStep) → IsTidyStep m.tables.clauses step → IsFalling top m → IsFalling top (after_event m (Step step))
falls_by top m (ClauseWithHints n zs hints) tidy f = record { served = refl; falling = subst (λ b. IsFallingFrom top (cond b (n ∷ m.learned) m.learned)) (sym f.served) f.falling }
falls_by top m (Delete n zs) tidy f = record { served = f.served; falling = falls_without top m.learned n f.falling }
falls_by top m (Clause n zs) tidy f = absurd tidy
falls_by top m (Original n zs) tidy f = absurd tidy
falls_by top m (OriginalParity n zs) tidy f = absurd tidy
falls_by top m (Parity n zs sources) tidy f = absurd tidy
falls_by top m (ClauseOfParity n zs source) tidy f = absurd tidy
falls_by top m (ParityOfClauses n zs sources) tidy f = absurd tidy
falls_by top m (DeleteParity n zs) tidy f = absurd tidy
falls_by top m (Final n zs) tidy f = absurd tidy
falls_by top m (FinalParity n zs) tidy f = absurd tidy
falls_by top m (MoveClauses moves) tidy f = absurd tidy
falls_by top m (MoveParities moves) tidy f = absurd tidy

module _ (formula : Problem) where
  falls_after : (top : ℕ) (s : Search) (steps : List LogStep) (last : Tables) → RunsTidily formula s.moment.tables steps last → IsFalling top s.moment → IsFalling top (steps_told s steps).moment
  falls_after top s [] last runs f = f
  falls_after top s (step ∷ steps) last (is_right, goes, tidy, runs) f = falls_after top (told s (Step step)) steps last runs (falls_by top s.moment step tidy f)

-- ---- a search that restarts
module _ (formula : Problem) (c : SearchState) (e : State) (s : Search) (ok : IsSearchIn c.tidies formula e.parities s) (t : Ties formula c e [] s) (at : IsAtRestart c) where
  abbrev table : Table
  table = s.moment.tables.clauses

  pub begins : IsAtStart s
  begins = record {
    tidy = record {
      served = t.log.served.served;
      no_old_clauses = t.log.served.old_clauses;
      no_new_clauses = t.log.served.new_clauses;
      no_old_sums = t.log.served.old_sums;
      no_new_sums = t.log.served.new_sums;
      levels = t.levels;
    };
    level_0 = level_tied s.trail c.trail t.trail.follows.tied t.trail.follows.sound ∙ at.level;
    restart = subst IsRestart (sym t.counts.marked) at.restart;
  }

  pub tidies_on : IsSearchIn true formula e.parities s
  tidies_on = subst (λ b. IsSearchIn b formula e.parities s) at.tidies ok

  -- ids from the next one on are free
  pub free_above : (n : ℕ) → c.next ≤ n → get table n ≡ None
  free_above n far = ⊎_elim
      (λ (low : n < first_row_id c.next). t.log.ranged.free n far low)
      (λ (high : first_row_id c.next ≤ n). t.log.ranged.rows_free n high (ap (λ ids. is_among ids n) t.log.served.new_clauses) (ap (λ ids. is_among ids n) t.log.served.old_clauses)) (cases_lt n (first_row_id c.next))

  -- the arena has each live clause with two different literals, also where it is a tautology
  holds : (n : ℕ) (x : List Literal) → get table n ≡ Some x → HasTwo x → (r : ℕ) × IsLive c.arena r × (id_at c.arena r ≡ n)
  holds n x is two = ⊎_elim
      (λ (low : n < c.next). elim (t.clauses.covered n x low is) [
        | inl there ↦ there
        | inr (inl (plain, both)) ↦ absurd (true≢false (sym at.tidies ∙ plain))
        | inr (inr (one, true_now)) ↦ absurd (one two)
      ])
      (λ (far : c.next ≤ n). absurd (no_clause x (sym is ∙ free_above n far))) (cases_lt n c.next)

  pub agrees_with : (spare : ℕ) → c.next ≤ spare → Agrees spare table c.arena
  agrees_with spare far = record { stored = λ r live. (t.clauses.stored r live).named; apart = t.clauses.apart; held = holds; free = free_above spare far }

  rest : RestOnUnits c.units.items s.trail
  rest = subst (RestOnUnits c.units.items)
      (no_newer t.units.newer t.units.older s.trail t.units.parts (t.units.count ∙ at.units ∙ sym (tied_length s.trail c.trail.entries t.trail.follows.tied))) t.units.rest

  module _ (spare : ℕ) (agreed : Agrees spare table c.arena) (steps : List LogStep) (own : AllByRecursion (HasOwnId spare c.arena) steps) where
    pub spares_reasons : SpareReasons s.trail steps
    spares_reasons = spare_units c.units.items s.trail steps rest
        (λ i less. others_unit formula spare c.next s.moment.tables c.arena (held 0 s.trail) t.clauses agreed steps own (get_or c.units.items i 0) (entry_at c.trail.entries i).literal (t.units.named i less))

    pub keeps : (last : Tables) → RunsTidily formula s.moment.tables steps last → IsSearchIn true formula e.parities (steps_told s steps) × IsAtStart (steps_told s steps) × ((steps_told s steps).moment.tables ≡ last)
    keeps last runs = tidy_steps_keep formula e.parities s tidies_on begins steps last runs spares_reasons

    module _ (b : ArenaState) (units : List Literal) (ids : List ℕ) (d : IsTidied formula spare c.arena b units ids steps) (proper : AreProper formula c.arena) where
      abbrev last : Tables
      last = (d.runs.1 s.moment.tables agreed).0

      abbrev runs : RunsTidily formula s.moment.tables steps last
      runs = (d.runs.1 s.moment.tables agreed).1

      abbrev after : Search
      after = steps_told s steps

      abbrev pub counted : SearchState
      counted = record c { arena = b; learned = learned_count b; tidy_below = length b.clauses }

      kept : IsSearchIn true formula e.parities after × IsAtStart after × (after.moment.tables ≡ last)
      kept = keeps last runs

      counts_kept : ((n : ℕ) → NoneDeletes n steps → is_among s.moment.learned n ≡ true → is_among after.moment.learned n ≡ true) × (after.moment.reductions ≡ s.moment.reductions) × (after.moment.reduces ≡ s.moment.reduces)
      counts_kept = tidy_counts formula e.parities s tidies_on begins steps last runs spares_reasons

      log_then : LogTies c.tidies formula e.parities c.next (first_row_id c.next) [] after
      log_then = record {
        ranged = subst (λ es. IsRanged formula (first_row_id c.next) c.next (first_row_id c.next + 0) es after.moment) (sym (told_trail s steps))
            (tidy_ranged formula (first_row_id c.next) c.next (first_row_id c.next + 0) s t.log.ranged begins steps last runs (d.runs.1 s.moment.tables agreed).4);
        sums = tidy_frees_sums formula (length e.parities) s t.log.sums steps last runs;
        numbered = λ k low high. ap (λ parities. get parities k) (parities_are formula s steps last runs) ∙ t.log.numbered k low high;
        rows_told = λ i less. absurd (omega (arith, less));
        few_rows = omega arith;
        few_additions = λ plain. absurd (true≢false (sym at.tidies ∙ plain));
        none_at_0 = ap (λ (x : Tables). get x.clauses 0) kept.2 ∙ (d.runs.1 s.moment.tables agreed).4 0 t.log.none_at_0;
        served = record {
          served = kept.1.tidy.served;
          old_clauses = kept.1.tidy.no_old_clauses;
          new_clauses = kept.1.tidy.no_new_clauses;
          old_sums = kept.1.tidy.no_old_sums;
          new_sums = kept.1.tidy.no_new_sums;
        };
      }

      clauses_then : ClauseTies c.tidies formula after.moment.tables.clauses c.next b (length b.clauses) (units ++ held 0 after.trail)
      clauses_then = subst (λ es. ClauseTies c.tidies formula after.moment.tables.clauses c.next b (length b.clauses) (units ++ held 0 es)) (sym (told_trail s steps))
          (subst (λ (x : Tables). ClauseTies c.tidies formula x.clauses c.next b (length b.clauses) (units ++ held 0 s.trail)) (sym kept.2)
          (clauses_tidied formula spare c.next s.moment.tables c.arena (held 0 s.trail) t.clauses agreed b units ids steps d own))

      waiting_then : (l : Literal) (n : ℕ) → Lists units ids l n → IsWaitingUnit formula after.moment.tables.clauses c.next l n
      waiting_then l n lists =
          let p = d.parts.each_unit l n lists in
          record {
            named = subst (λ (x : Tables). IsNamedBy x.clauses (l ∷ []) n) (sym kept.2) ((d.runs.1 s.moment.tables agreed).3 l n lists);
            low = unit_low formula spare c.next s.moment.tables c.arena (held 0 s.trail) t.clauses agreed b units ids steps d own l n lists;
            within = within_member formula.variables _ l (proper.variables p.r p.live) (has_by_inside (l ∷ []) _ l p.inside (has_at_head l []));
          }

      learned_then : AreLearned b after.moment.learned
      learned_then q live is =
          let same = d.learned q live is in
          counts_kept.0 (id_at b q) ((d.runs.1 s.moment.tables agreed).5 q live is)
          (subst (λ (o : Option Stored). is_among s.moment.learned (id_in o) ≡ true) (sym same)
          (t.learned q (subst IsSome same live) (subst (λ (o : Option Stored). IsTrue (learned_in o)) same is)))

      units_then : AreUnits after.moment.tables.clauses c.next c.trail after.trail c.units.items
      units_then = subst (λ es. AreUnits after.moment.tables.clauses c.next c.trail es c.units.items) (sym (told_trail s steps)) (record {
        few = t.units.few;
        level_0 = t.units.level_0;
        named = λ i less. subst (λ (x : Tables). IsNamedBy x.clauses ((entry_at c.trail.entries i).literal ∷ []) (get_or c.units.items i 0)) (sym kept.2)
            (unit_stays formula spare c.next s.moment.tables c.arena (held 0 s.trail) t.clauses agreed b units ids steps d own (get_or c.units.items i 0) (entry_at c.trail.entries i).literal (t.units.named i less));
        low = t.units.low;
        newer = t.units.newer;
        older = t.units.older;
        parts = t.units.parts;
        count = t.units.count;
        rest = t.units.rest;
        all = t.units.all;
      })

      stretches_same : stretches after.moment ≡ stretches s.moment
      stretches_same = ap (λ x. if x then after.moment.reductions + 1 else after.moment.reductions) counts_kept.2 ∙ ap (λ k. if s.moment.reduces then k + 1 else k) counts_kept.1

      ties_then : TiesBeside formula counted e units ids after
      ties_then = record {
        log = log_then;
        clauses = clauses_then;
        waiting = waiting_then;
        learned = learned_then;
        trail = subst (λ es. TrailTies formula es c.trail c.order c.phases.items) (sym (told_trail s steps)) t.trail;
        units_told = units_then;
        engine = subst (λ es. EngineTies formula es c.given e) (sym (told_trail s steps)) t.engine;
        counts = record {
          marked = told_conflicts s steps ∙ t.counts.marked;
          falling = (falls_after formula c.next s steps last runs (record { served = t.log.served.served; falling = t.counts.falling })).falling;
          many = learned_are_few b after.moment.learned (d.runs.1 s.moment.tables agreed).2.apart learned_then;
          few = subst (λ k. k ≤ c.reductions) (sym stretches_same) t.counts.few;
        };
        ids_few = t.ids;
        levels = told_levels s steps ∙ t.levels ∙ ap level_of (sym (told_trail s steps));
      }

      pub can_be_watched : AreWatchable formula.variables b
      can_be_watched q live =
          let p = d.parts.each_clause q live in
          let wide = ((clauses_tidied formula spare c.next s.moment.tables c.arena (held 0 s.trail) t.clauses agreed b units ids steps d own).stored q live).wide in
          record {
            within = λ k x less. within_member formula.variables (literals_at c.arena p.r) (get_or (literals_at b q) k x) (proper.variables p.r p.live)
                (has_by_inside (literals_at b q) (literals_at c.arena p.r) (get_or (literals_at b q) k x) p.inside (has_by_index (literals_at b q) k x less));
            different = record { first = wide.first; second = wide.second; has_first = wide.has_first; has_second = wide.has_second; differ = wide.differ };
          }

      pub stands_beside : (old : Option (List LogEvent)) → AreTold old s.events → StandsBeside formula counted e units ids (with_events (as_events steps) old)
      stands_beside old told_is = (after, subst (λ x. IsSearchIn x formula e.parities after) (sym at.tidies) kept.0, all_told_are (as_events steps) s old told_is, ties_then)
