-- Each step that the search tells is right and fits, and keeps what holds of the search.
use Rattle.std.proofs.Common.{◌≡◌, refl, sym, ap, ◌∙◌, subst, ℕ, zero, suc, ◌+◌, ◌*◌, ◌≤◌, ◌<◌, ℤ, Bool, true, false, not, ◌||◌, MatchBool, List, [], ◌∷◌, ◌++◌, length, Some, None, is_some, filter_map, Contains, arith, ◌⊎◌, inl, inr, true≢false, append-nil, append_assoc, IsTrue, IsFalse}
use Rattle.std.proofs.lemmas.List.Elements.{filter_map-append}
use Rattle.std.specs.List.{list_any, list_all, range_with_len}
use Rattle.std.proofs.lemmas.Bool.{and_parts, and_from, or_cases}
use Rattle.cx_base.specs.Literals.{Literal, negate}
use Rattle.cx_base.specs.Problem.{Problem, clauses_of, clause_met, parity_met}
use Rattle.cx_base.specs.declared.constraint.Constraint.{Constraint}
use Rattle.cx_base.proofs.Elements.{in_head, in_tail}
use Rattle.cx_base.specs.declared.steps.LogStep.{LogStep}
use Rattle.cx_base.specs.declared.steps.LogStep.TheVariants.{ClauseWithHints, Parity, ClauseOfParity, ParityOfClauses, Delete, DeleteParity}
use Rattle.cx_base.specs.declared.steps.LogEvent.{LogEvent}
use Rattle.cx_base.specs.declared.steps.LogEvent.TheVariants.{Step, Conflict}
use Rattle.cx_semantics.specs.Chain.{has_literal, is_inside, negations, same_literals}
use Rattle.cx_semantics.specs.Fresh.{Fresh, IsLive, KeepsUnits, FalsifiesNone, is_falsified, is_tautology}
use Rattle.cx_semantics.specs.Implied.{Implies}
use Rattle.cx_base.specs.Integers.{literals}
use Rattle.cx_semantics.specs.Judging.{IsRight, Runs}
use Rattle.cx_semantics.specs.LogRules.{log_calculus, after_log_step, derives_ending_clause, HasChain, AreLive}
use Rattle.cx_base.specs.Events.{step_of}
use Rattle.cx_semantics.specs.Marked.{Moment, first_moment, after_event, StepFits, MarkFits, KeepsFormula, mark_of, BeginsWithOriginals, original_events, IsLearned, IsKnown, is_among, without}
use Rattle.cx_semantics.specs.ProofRules.{all_met, IsSum}
use Rattle.cx_semantics.specs.Settled.{IsClauseOf}
use Rattle.cx_semantics.specs.Tables.{Table, get, is_live, named}
use Rattle.cx_semantics.proofs.Closure.{chain_or_closed, has_by_inside}
use Rattle.cx_semantics.proofs.JudgingLaws.{runs_push}
use Rattle.cx_semantics.proofs.MarkedLaws.{events_go_on}
use Rattle.cx_semantics.proofs.Members.{has_at_head, has_split, all_by}
use Rattle.tidy_rules.proofs.InsideLaws.{tautology_inside, inside_through}
use Rattle.search_steps.specs.Covers.{HasCover, AreCovered, IsSpared, CoversNone, ArePlain, rows_in}
use Rattle.search_steps.specs.Trail.{Entry, by_clause, held, all_held, IsTrail, Forces, level_of}
use Rattle.search_steps.specs.Quiet.{IsOfParities}
use Rattle.search_steps.specs.Search.{Search, IsLog, Serves, IsSearchIn, told, marked, IsServed, IsLearnedOf}
use Rattle.search_steps.specs.LogSteps.{IsNoReason, IsAddition, RestOnClauses, IsRowOf, IsClauseOfRow}
use Rattle.conflict_learn.proofs.ChainOfResolutions.{negated_in}
use Rattle.search_steps.specs.Hints.{AreHintsFor, IsHinted}
use Rattle.search_steps.specs.Schedule.{IsInReduction, moment_after}
use Rattle.search_steps.proofs.HintLaws.{step_is_hinted, mark_is_hinted}
use Rattle.search_steps.proofs.ScheduleLaws.{MayFollow, moment_is, scheduled_then, mark_may_follow, goes_in_reduction}
use Rattle.search_steps.proofs.Sets.{not_both, true_rests}
use Rattle.search_steps.proofs.FreshLaws.{takes_forced}
use Rattle.search_steps.proofs.QuietLaws.{implied_rests}
use Rattle.search_steps.proofs.TrailLaws.{held_rises, held_inside, trail_no_clash, part_no_clash}
use Rattle.search_steps.proofs.ServesLaws.{put_serves, drop_serves, put_parity_serves, drop_parity_serves, learned_is_fresh}
use Rattle.search_steps.proofs.CoverLaws.{put_covered, put_row_covered, drop_covered, spared_where_none}
use Rattle.search_steps.proofs.PlainLaws.{put_plain, learned_plain, unlearned_plain, drop_plain}

-- The unit clause of a literal of level 0: some live clause forces it from older literals, each of which a live clause forces.
pub record IsUnitOf (s : Search) (l : Literal) (older : List Entry) (clause : List Literal) : Type 0 where
  pub level_0 : IsTrue (has_literal (held 0 s.trail) l)
  pub on_clauses : RestOnClauses older
  pub live : IsLive s.moment.tables.clauses clause
  pub forces : Forces clause (all_held older) l

-- an id that may be deleted without leave: it covers no clause of the formula, and is that of no learned one
pub record IsTemporary (s : Search) (n : ℕ) : Type 0 where
  pub covers_none : CoversNone s.moment n
  pub not_learned : IsFalse (is_among s.moment.learned n)

-- the literal is in each set that is closed under the live clauses and falsifies none of them
abbrev pub IsReached : Table → Literal → Type 0
IsReached table l = (known : List Literal) → KeepsUnits (IsLive table) known → FalsifiesNone (IsLive table) known → IsTrue (has_literal known l)

-- ---- logs grow
pub begins_still : (cs : List Constraint) (events : List LogEvent) (more : List LogEvent) → BeginsWithOriginals cs events → BeginsWithOriginals cs (events ++ more)
begins_still cs events more (rest, is) = (rest ++ more, ap (λ es. es ++ more) is ∙ append_assoc (original_events 1 1 cs) rest more)

range_push : (a n : ℕ) → range_with_len a (suc n) ≡ range_with_len a n ++ (a + n) ∷ []
range_push a zero = ap (λ x. x ∷ []) (omega arith)
range_push a (suc n) = ap (λ xs. a ∷ xs) (range_push (a + 1) n) ∙ ap (λ x. (a ∷ range_with_len (a + 1) n) ++ x ∷ []) (omega arith)

next_range : (n : ℕ) → range_with_len 1 (n + 1) ≡ range_with_len 1 n ++ (n + 1) ∷ []
next_range n =
    let e : n + 1 ≡ suc n = omega arith in
    let f : 1 + n ≡ n + 1 = omega arith in
    ap (range_with_len 1) e ∙ range_push 1 n ∙ ap (λ x. range_with_len 1 n ++ x ∷ []) f

module _ {tidies : Bool} (formula : Problem) (events : List LogEvent) (moment : Moment) (conflicts : ℕ) (log : IsLog tidies formula events moment conflicts) where
  pub step_goes_on : (step : LogStep) → IsRight (log_calculus formula) moment.tables step → derives_ending_clause formula step ≡ false → StepFits formula moment step → MayFollow tidies events (Step step) → IsHinted moment.tables step
      → IsLog tidies formula (events ++ Step step ∷ []) (after_event moment (Step step)) conflicts
  step_goes_on step is_right goes fits may hinted = record {
    apart = log.apart;
    runs = subst (λ steps. Runs (log_calculus formula) (log_calculus formula).start steps (after_log_step moment.tables step)) (sym (filter_map-append step_of events (Step step ∷ [])))
        (runs_push (log_calculus formula) (log_calculus formula).start (filter_map step_of events) step moment.tables log.runs is_right goes);
    fits = events_go_on formula first_moment moment events (Step step) log.fits fits;
    marks = filter_map-append mark_of events (Step step ∷ []) ∙ append-nil (filter_map mark_of events) ∙ log.marks;
    originals = begins_still formula.constraints events (Step step ∷ []) log.originals;
    scheduled = scheduled_then tidies events (Step step) log.scheduled may;
    hinted = step_is_hinted events moment (moment_is formula moment events log.fits) step log.hinted hinted;
  }

  pub mark_goes_on : MarkFits formula moment → IsLog tidies formula (events ++ Conflict (conflicts + 1) ∷ []) (after_event moment (Conflict (conflicts + 1))) (conflicts + 1)
  mark_goes_on fits = record {
    apart = log.apart;
    runs = subst (λ steps. Runs (log_calculus formula) (log_calculus formula).start steps moment.tables) (sym (filter_map-append step_of events (Conflict (conflicts + 1) ∷ []) ∙ append-nil (filter_map step_of events))) log.runs;
    fits = events_go_on formula first_moment moment events (Conflict (conflicts + 1)) log.fits fits;
    marks = filter_map-append mark_of events (Conflict (conflicts + 1) ∷ []) ∙ ap (λ xs. xs ++ (conflicts + 1) ∷ []) log.marks ∙ sym (next_range conflicts);
    originals = begins_still formula.constraints events (Conflict (conflicts + 1) ∷ []) log.originals;
    scheduled = scheduled_then tidies events (Conflict (conflicts + 1)) log.scheduled (mark_may_follow tidies events (conflicts + 1));
    hinted = mark_is_hinted events (conflicts + 1) log.hinted;
  }

-- ---- literals of level 0 are known
-- literals that live clauses force one after another are in each closed set without conflict
pub takes_all : (table : Table) (IsRow : List Literal → Type 0) (u : List Literal) → KeepsUnits (IsLive table) u → FalsifiesNone (IsLive table) u → (es : List Entry) → IsTrail table IsRow es → RestOnClauses es
    → is_inside (all_held es) u ≡ true
takes_all table IsRow u units none [] t r = refl
takes_all table IsRow u units none (e ∷ es) t r =
    let rest : is_inside (all_held es) u ≡ true = takes_all table IsRow u units none es t.2 r.1 in
    let why : Rattle.search_steps.specs.Trail.IsSetBy table IsRow (by_clause r.0.0) e.literal e.level es = subst (λ w. Rattle.search_steps.specs.Trail.IsSetBy table IsRow w e.literal e.level es) r.0.1 t.1 in
    let c = why.1 in
    and_from _ _ (takes_forced table u c.0 e.literal units none (r.0.0, c.1) (λ m h n. has_by_inside (all_held es) u (negate m) rest (c.2.others_false m h n))) rest

module _ (table : Table) (IsRow : List Literal → Type 0) (older : List Entry) (t : IsTrail table IsRow older) (r : RestOnClauses older) (clause : List Literal) (live : IsLive table clause) where
  forced_is_reached : (l : Literal) → Forces clause (all_held older) l → IsReached table l
  forced_is_reached l f u units none = takes_forced table u clause l units none live (λ m h n. has_by_inside (all_held older) u (negate m) (takes_all table IsRow u units none older t r) (f.others_false m h n))

  -- a falsified clause has a right chain for the empty clause
  pub falsified_has_chain : is_inside (negations clause) (all_held older) ≡ true → HasChain table []
  falsified_has_chain h = elim (chain_or_closed table []) [
    | inl k ↦ k
    | inr c ↦ absurd (not_both (is_falsified c.u clause)
        (all_by (λ m. has_literal c.u (negate m)) clause (λ m k. has_by_inside (all_held older) c.u (negate m) (takes_all table IsRow c.u c.units c.no_conflict older t r) (negated_in clause (all_held older) m h k)))
        (c.no_conflict clause live))
  ]

pub reached_is_known : (table : Table) (l : Literal) → IsReached table l → ¬ Fresh table (l ∷ [])
reached_is_known table l h f =
    let it : f.l ≡ l = only (has_split l [] f.l f.has_it) in
    not_both (has_literal f.unknown.closed f.l) (ap (has_literal f.unknown.closed) it ∙ h f.unknown.closed f.unknown.units f.unknown.no_conflict) f.unknown.not_in
  where
    only : (f.l ≡ l) ⊎ (false ≡ true) → f.l ≡ l
    only (inl e) = e
    only (inr e) = absurd (true≢false (sym e))

-- ---- steps of the search
module _ {tidies : Bool} (formula : Problem) (parities : List (List Literal)) (s : Search) (ok : IsSearchIn tidies formula parities s) where
  pub tell : (step : LogStep) → IsRight (log_calculus formula) s.moment.tables step → derives_ending_clause formula step ≡ false → StepFits formula s.moment step → MayFollow tidies s.events (Step step) → IsHinted s.moment.tables step
      → Serves formula parities (after_log_step s.moment.tables step) s.trail s.quiet_levels → AreCovered formula (after_log_step s.moment.tables step).clauses (rows_in (after_event s.moment (Step step)))
      → ArePlain (after_log_step s.moment.tables step).clauses (after_event s.moment (Step step)).learned → IsSearchIn tidies formula parities (told s (Step step))
  tell step is_right goes fits may hinted serves covered plain =
      record { log = step_goes_on formula s.events s.moment s.conflicts ok.log step is_right goes fits may hinted; serves = serves; covered = covered; plain = plain }

  not_live : (table : Table) (n : ℕ) → get table n ≡ None → is_live table n ≡ false
  not_live table n e = ap is_some e

  -- the unit clause of a literal of level 0 that propagation reaches
  pub reached_unit_keeps : (n : ℕ) (z : ℤ) (hints : List ℤ) → IsAddition formula s.moment.tables.clauses n (z ∷ []) → derives_ending_clause formula (ClauseWithHints n (z ∷ []) hints) ≡ false → s.moment.awaits ≡ false
      → AreHintsFor s.moment.tables.clauses (Rattle.cx_base.specs.Integers.literal z ∷ []) hints → IsReached s.moment.tables.clauses (Rattle.cx_base.specs.Integers.literal z) → has_literal (held 0 s.trail) (Rattle.cx_base.specs.Integers.literal z) ≡ true
      → IsSearchIn tidies formula parities (told s (Step (ClauseWithHints n (z ∷ []) hints)))
  reached_unit_keeps n z hints a goes served right reached level_0 =
      let l = Rattle.cx_base.specs.Integers.literal z in
      let IsRow = IsOfParities formula.variables parities in
      tell (ClauseWithHints n (z ∷ []) hints)
      (a.within, (not_live s.moment.tables.clauses n a.free, ((right.ids, right.live, right.chain), tt)))
      goes
      (subst (λ b. MatchBool b (IsLearned s.moment (l ∷ [])) (derives_ending_clause formula (ClauseWithHints n (z ∷ []) hints) ≡ false → IsKnown s.moment (l ∷ []))) (sym served)
      (λ _. inl (refl, reached_is_known s.moment.tables.clauses l reached)))
      (λ k ys is among. cc)
      right
      (put_serves formula parities s.trail s.quiet_levels s.moment.tables n (l ∷ []) a.free
      (λ k h. true_rests (held k s.trail) (l ∷ [])
      (part_no_clash (held k s.trail) (all_held s.trail) (held_inside k s.trail) (trail_no_clash s.moment.tables.clauses IsRow s.trail ok.serves.stands))
      (record { l = l; has_it = has_at_head l []; is_held = has_by_inside (held 0 s.trail) (held k s.trail) l (held_rises 0 k s.trail (omega arith)) level_0 }))
      ok.serves)
      (put_covered formula s.moment.tables.clauses (rows_in s.moment) n (l ∷ []) a.free ok.covered)
      (unlearned_plain s.moment.tables.clauses n (l ∷ []) s.moment.learned s.moment.awaits served a.free ok.plain)

  -- and of one that a live clause forces
  pub unit_keeps : (n : ℕ) (z : ℤ) (hints : List ℤ) (older : List Entry) (clause : List Literal) → IsAddition formula s.moment.tables.clauses n (z ∷ []) → AreHintsFor s.moment.tables.clauses (Rattle.cx_base.specs.Integers.literal z ∷ []) hints → derives_ending_clause formula (ClauseWithHints n (z ∷ []) hints) ≡ false → s.moment.awaits ≡ false
      → IsTrail s.moment.tables.clauses (IsOfParities formula.variables parities) older
      → IsUnitOf s (Rattle.cx_base.specs.Integers.literal z) older clause → IsSearchIn tidies formula parities (told s (Step (ClauseWithHints n (z ∷ []) hints)))
  unit_keeps n z hints older clause a right goes served t u =
      let l = Rattle.cx_base.specs.Integers.literal z in
      let IsRow = IsOfParities formula.variables parities in
      reached_unit_keeps n z hints a goes served right (forced_is_reached s.moment.tables.clauses IsRow older t u.on_clauses clause u.live l u.forces) u.level_0

  -- the sum of live parities
  pub live_sum_keeps : (n : ℕ) (zs : List ℤ) (ids : List ℕ) → IsAddition formula s.moment.tables.parities n zs → AreLive s.moment.tables.parities ids → IsSum (literals zs) (named s.moment.tables.parities ids) → IsSearchIn tidies formula parities (told s (Step (Parity n zs ids)))
  live_sum_keeps n zs ids a live sums = tell (Parity n zs ids)
      (a.within, (not_live s.moment.tables.parities n a.free, (all_are_live ids live, (sums, tt))))
      refl tt (λ k ys is among. cc) tt
      (put_parity_serves formula parities s.trail s.quiet_levels s.moment.tables n (literals zs) a.free ok.serves) ok.covered ok.plain
    where
      all_are_live : (ids : List ℕ) → AreLive s.moment.tables.parities ids → list_any (λ k. not (is_live s.moment.tables.parities k)) ids ≡ false
      all_are_live [] h = refl
      all_are_live (k ∷ ks) h = ap (λ b. not b || list_any (λ x. not (is_live s.moment.tables.parities x)) ks) h.0 ∙ all_are_live ks h.1

  -- and that of parities of the engine
  pub sum_keeps : (n : ℕ) (zs : List ℤ) (ids : List ℕ) → IsAddition formula s.moment.tables.parities n zs → IsRowOf parities s.moment.tables ids (literals zs) → IsSearchIn tidies formula parities (told s (Step (Parity n zs ids)))
  sum_keeps n zs ids a row = live_sum_keeps n zs ids a row.live row.sums

  -- a parity that live clauses imply
  pub clauses_parity_keeps : (n : ℕ) (zs : List ℤ) (ids : List ℕ) → get s.moment.tables.parities n ≡ None → IsRight (log_calculus formula) s.moment.tables (ParityOfClauses n zs ids) → IsSearchIn tidies formula parities (told s (Step (ParityOfClauses n zs ids)))
  clauses_parity_keeps n zs ids free is_right = tell (ParityOfClauses n zs ids) is_right refl tt (λ k ys is among. cc) tt (put_parity_serves formula parities s.trail s.quiet_levels s.moment.tables n (literals zs) free ok.serves) ok.covered ok.plain

  -- the clause of a row, where the sum of the row is live
  pub row_clause_keeps : (n : ℕ) (zs : List ℤ) (source : ℕ) (row : List Literal) → IsAddition formula s.moment.tables.clauses n zs → get s.moment.tables.parities source ≡ Some row
      → IsOfParities formula.variables parities (literals zs) → IsClauseOfRow formula.variables row (literals zs) → derives_ending_clause formula (ClauseOfParity n zs source) ≡ false → IsSearchIn tidies formula parities (told s (Step (ClauseOfParity n zs source)))
  row_clause_keeps n zs source row a live of_parities c goes = tell (ClauseOfParity n zs source)
      (a.within, (not_live s.moment.tables.clauses n a.free, (ap (λ b. not b || false) (ap is_some live), (implied, tt))))
      goes
      (row, live, c.one_of_each)
      (λ k ys is among. cc) tt
      (put_serves formula parities s.trail s.quiet_levels s.moment.tables n (literals zs) a.free
      (λ k h. implied_rests formula.variables parities (held k s.trail) (literals zs) (ok.serves.quiet k h).rows of_parities) ok.serves)
      (put_row_covered formula s.moment.tables.clauses (rows_in s.moment) n (literals zs) a.free ok.covered)
      (put_plain s.moment.tables.clauses n (literals zs) a.free s.moment.learned ok.plain)
    where
      implied : Implies (all_met parity_met (named s.moment.tables.parities (source ∷ []))) (λ values. clause_met values (literals zs))
      implied values h = c.implied values (and_parts (parity_met values row) true
          (ap (λ o. list_all (parity_met values) (Rattle.std.specs.List.cons_option o [])) (sym live) ∙ h)).0

  -- a learned clause, where one is owed
  pub learned_keeps : (n : ℕ) (zs hints : List ℤ) (back : ℕ) (l : Literal) → IsAddition formula s.moment.tables.clauses n zs → derives_ending_clause formula (ClauseWithHints n zs hints) ≡ false → s.moment.awaits ≡ true → s.quiet_levels ≡ level_of s.trail
      → AreHintsFor s.moment.tables.clauses (literals zs) hints → IsLearnedOf s.trail back (literals zs) l
      → IsSearchIn tidies formula parities (record (told s (Step (ClauseWithHints n zs hints))) { quiet_levels = back })
  learned_keeps n zs hints back l a goes owed levels right learned = record {
    log = step_goes_on formula s.events s.moment s.conflicts ok.log (ClauseWithHints n zs hints)
        (a.within, (not_live s.moment.tables.clauses n a.free, ((right.ids, right.live, right.chain), tt)))
        goes
        (subst (λ b. MatchBool b (IsLearned s.moment (literals zs)) (derives_ending_clause formula (ClauseWithHints n zs hints) ≡ false → IsKnown s.moment (literals zs))) (sym owed)
        (long zs learned.asserting.has_it, learned_is_fresh formula parities s ok back (literals zs) l levels learned))
        (λ k ys is among. cc)
        right;
    serves = put_serves formula parities s.trail back s.moment.tables n (literals zs) a.free
        (Rattle.search_steps.proofs.ServesLaws.learned_rests formula parities s ok back (literals zs) l learned)
        (record {
          stands = ok.serves.stands;
          quiet = λ k h. let low = learned.lower in ok.serves.quiet k (omega (arith, h, levels, low));
          keeps_parities = ok.serves.keeps_parities;
        });
    covered = put_covered formula s.moment.tables.clauses (rows_in s.moment) n (literals zs) a.free ok.covered;
    plain = learned_plain s.moment.tables.clauses n (literals zs) s.moment.learned s.moment.awaits owed (learned_is_fresh formula parities s ok back (literals zs) l levels learned).no_tautology a.free ok.plain;
  }
    where
      long : (zs : List ℤ) → has_literal (literals zs) l ≡ true → 1 ≤ length (literals zs)
      long [] h = not_both false h refl
      long (z ∷ zs) h = omega arith

  -- deletions
  pub delete_keeps : (n : ℕ) (zs : List ℤ) → IsTemporary s n → IsNoReason n s.trail → IsSearchIn tidies formula parities (told s (Step (Delete n zs)))
  delete_keeps n zs t no_reason = tell (Delete n zs) tt refl
      (λ h. not_both (is_among s.moment.learned n) (and_parts _ _ h).0 t.not_learned)
      (λ k ys is among. absurd (not_both (is_among s.moment.learned n) (was_learned k ys is among) t.not_learned))
      tt
      (drop_serves formula parities s.trail s.quiet_levels s.moment.tables n no_reason ok.serves)
      (drop_covered formula s.moment n (spared_where_none formula s.moment n t.covers_none ok.covered))
      (drop_plain s.moment.tables.clauses n s.moment.learned ok.plain)
    where
      was_learned : (k : ℕ) (ys : List ℤ) → Step (Delete n zs) ≡ Step (Delete k ys) → is_among (moment_after s.events).learned k ≡ true → is_among s.moment.learned n ≡ true
      was_learned k ys is among =
          let same : n ≡ k = cc in
          subst (λ (m : Moment). is_among m.learned n ≡ true) (sym (moment_is formula s.moment s.events ok.log.fits)) (subst (λ i. is_among (moment_after s.events).learned i ≡ true) (sym same) among)

  pub delete_learned_keeps : (n : ℕ) (zs : List ℤ) → IsSpared formula s.moment n → IsNoReason n s.trail → 1000 + 250 * s.moment.reductions ≤ length (without s.moment.learned n)
      → IsInReduction s.events → IsSearchIn tidies formula parities (told s (Step (Delete n zs)))
  delete_learned_keeps n zs spared no_reason enough reducing = tell (Delete n zs) tt refl (λ _. enough) (λ k ys is among. goes_in_reduction tidies s.events k reducing) tt
      (drop_serves formula parities s.trail s.quiet_levels s.moment.tables n no_reason ok.serves)
      (drop_covered formula s.moment n spared)
      (drop_plain s.moment.tables.clauses n s.moment.learned ok.plain)

  pub delete_sum_keeps : (n : ℕ) (zs : List ℤ) → length parities < n → IsSearchIn tidies formula parities (told s (Step (DeleteParity n zs)))
  delete_sum_keeps n zs high = tell (DeleteParity n zs) tt refl tt (λ k ys is among. cc) tt (drop_parity_serves formula parities s.trail s.quiet_levels s.moment.tables n high ok.serves) ok.covered ok.plain

  -- the mark of a counted conflict
  keeps_formula : KeepsFormula formula s.moment.tables.clauses
  keeps_formula clause h = look (clauses_of formula.constraints) (λ c k. k) h
    where
      kept : (c : List Literal) → same_literals clause c ≡ true → HasCover s.moment.tables.clauses (rows_in s.moment) c
          → ((inner : List Literal) × IsLive s.moment.tables.clauses inner × (is_inside inner clause ≡ true)) ⊎ (is_tautology clause ≡ true)
      kept c g (inl both) = inr (tautology_inside c clause (and_parts (is_inside clause c) (is_inside c clause) g).1 both)
      kept c g (inr (k, cover)) = inl (cover.inner, (k, cover.live), inside_through cover.inner c clause cover.inside (and_parts (is_inside clause c) (is_inside c clause) g).1)

      look : (lists : List (List Literal)) → ((c : List Literal) → Contains lists c → IsClauseOf formula c) → list_any (same_literals clause) lists ≡ true
          → ((inner : List Literal) × IsLive s.moment.tables.clauses inner × (is_inside inner clause ≡ true)) ⊎ (is_tautology clause ≡ true)
      look [] f e = not_both false e refl
      look (c ∷ cs) f e = elim (or_cases (same_literals clause c) (list_any (same_literals clause) cs) e) [
        | inl g ↦ kept c g (ok.covered c (f c (in_head c cs)))
        | inr r ↦ look cs (λ d k. f d (in_tail c cs d k)) r
      ]

  pub mark_keeps : IsServed s → IsSearchIn tidies formula parities (marked s)
  mark_keeps tidy = record {
    log = mark_goes_on formula s.events s.moment s.conflicts ok.log (record { served = tidy.served; kept = keeps_formula; no_old_clauses = tidy.no_old_clauses; no_old_sums = tidy.no_old_sums });
    serves = ok.serves;
    covered = ok.covered;
    plain = ok.plain;
  }
