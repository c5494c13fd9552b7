-- The steps of a tidying keep the search, one kind after another.
use Rattle.std.proofs.Common.{◌≡◌, ◌≢◌, refl, sym, ap, ◌∙◌, subst, ℕ, ◌<◌, ℤ, Bool, true, false, not, ◌&&◌, MatchBool, nat_eq, eq-eqb, eqb-true, List, [], ◌∷◌, ◌++◌, length, map, Option, Some, None, is_some, arith, append-nil, append_assoc, ◌⊎◌, inl, inr, true≢false}
use Rattle.std.specs.Prelude.{unwrap_or}
use Rattle.std.specs.List.{list_any}
use Rattle.std.specs.FinMap as map_
use Rattle.std.proofs.lemmas.List.{map-append}
use Rattle.std.proofs.lemmas.List.FromFn.{length-range_with_len}
use Rattle.std.specs.Ordering.{nat_cmp, eq_by_cmp}
use Rattle.std.proofs.lemmas.Bool.{and_parts, and_from, or_cases, or_left, or_right}
use Rattle.cx_base.specs.Literals.{Literal}
use Rattle.cx_base.specs.Problem.{Problem}
use Rattle.cx_base.specs.Integers.{literals}
use Rattle.cx_base.specs.declared.steps.LogEvent.TheVariants.{Step}
use Rattle.cx_base.specs.declared.steps.LogStep.{LogStep}
use Rattle.cx_base.specs.declared.steps.LogStep.TheVariants.{Original, OriginalParity, Clause, ClauseWithHints, Parity, ClauseOfParity, ParityOfClauses, Delete, DeleteParity, Final, FinalParity, MoveClauses, MoveParities}
use Rattle.cx_base.specs.Assumptions.{IsFailed}
use Rattle.cx_semantics.specs.Chain.{is_inside, negations}
use Rattle.cx_semantics.specs.Fresh.{is_tautology}
use Rattle.cx_semantics.specs.Judging.{IsRight}
use Rattle.cx_semantics.specs.LogRules.{log_calculus, derives_ending_clause}
use Rattle.cx_semantics.specs.Marked.{Marked, Moment, IsLearned, IsKnown, IsAllowedDelete, clause_at, is_among, is_covered_without, is_reduction, without}
use Rattle.cx_semantics.specs.Tables.{Table, Tables, get}
use Rattle.cx_semantics.proofs.Closure.{same_id}
use Rattle.tidy_rules.specs.Runs.{IsTidyStep, RunsTidily, EndsTidily}
use Rattle.tidy_rules.proofs.InsideLaws.{tautology_inside, inside_through}
use Rattle.conflict_learn.proofs.ChainOfResolutions.{by_cases}
use Rattle.search_steps.specs.Covers.{IsCover, IsSpared, rows_in}
use Rattle.search_steps.specs.Hints.{AreHintsFor, AreHinted}
use Rattle.search_steps.specs.LogSteps.{IsEnded, IsNoReason}
use Rattle.search_steps.specs.Schedule.{IsRestart, IsScheduledIn, moment_after}
use Rattle.search_steps.specs.Search.{Search, IsSearchIn, told}
use Rattle.search_steps.specs.Trail.{Entry}
use Rattle.search_steps.specs.TidySteps.{IsAtStart, SpareReasons, steps_told}
use Rattle.search_steps.proofs.CoverLaws.{put_covered, drop_covered}
use Rattle.search_steps.proofs.Ends.{last_step_ends, last_step_fails, chained_clause_is_marked, chained_clause_is_scheduled, chained_clause_is_hinted}
use Rattle.search_steps.proofs.LogLaws.{tell}
use Rattle.search_steps.proofs.PlainLaws.{plain_at, unlearned_plain, drop_plain}
use Rattle.search_steps.proofs.ScheduleLaws.{MayFollow, moment_is}
use Rattle.search_steps.proofs.ServesLaws.{put_serves, drop_serves}
use Rattle.search_steps.proofs.Sets.{not_both}

-- ---- what another live clause covers
any_where : (p q : ℕ → Bool) (ns : List ℕ) → list_any p ns ≡ true → ((n : ℕ) → p n ≡ true → q n ≡ true) → list_any q ns ≡ true
any_where p q [] h f = absurd (true≢false (sym h))
any_where p q (n ∷ ns) h f = elim (or_cases (p n) (list_any p ns) h) [
  | inl e ↦ or_left (q n) (list_any q ns) (f n e)
  | inr more ↦ or_right (q n) (list_any q ns) (any_where p q ns more f)
]

apart_ids : (k n : ℕ) → k ≢ n → not (nat_eq k n) ≡ true
apart_ids k n h = by_cases (nat_eq k n) (λ e. absurd (h (eqb-true k n e))) (λ e. ap not e)

clause_is : (table : Table) (n : ℕ) (clause : List Literal) → get table n ≡ Some clause → clause_at table n ≡ clause
clause_is table n clause live = ap (λ (o : Option (List Literal)). unwrap_or o []) live

covered_by : (table : Table) (n k : ℕ) (inner lits : List Literal) → k ≢ n → get table k ≡ Some inner → is_inside inner lits ≡ true → is_covered_without table n lits ≡ true
covered_by table n k inner lits apart live inside =
    any_where (eq_by_cmp nat_cmp k) (λ j. not (nat_eq j n) && is_inside (clause_at table j) lits) (map_.keys table)
    (sym (map_.contains_key-keys table k) ∙ ap is_some live)
    (λ j same. subst (λ i. (not (nat_eq i n) && is_inside (clause_at table i) lits) ≡ true) (same_id k j same)
    (and_from _ _ (apart_ids k n apart) (ap (λ c. is_inside c lits) (clause_is table k inner live) ∙ inside)))

no_clause : (o : Option (List Literal)) → is_some o ≡ false → o ≡ None
no_clause None h = refl
no_clause (Some c) h = absurd (true≢false h)

-- ---- one step
module _ (formula : Problem) (parities : List (List Literal)) (s : Search) (ok : IsSearchIn true formula parities s) (at : IsAtStart s) where
  no_rows : rows_in s.moment ≡ []
  no_rows = ap (λ ids. ids ++ s.moment.old_clauses) at.tidy.no_new_clauses ∙ at.tidy.no_old_clauses

  none_quiet : (k : ℕ) → k < s.quiet_levels → ⊥
  none_quiet k h = let levels = at.tidy.levels in let low = at.level_0 in omega (arith, h, levels, low)

  -- a clause that lies inside a live one
  clause_keeps : (n : ℕ) (zs hints : List ℤ) → IsRight (log_calculus formula) s.moment.tables (ClauseWithHints n zs hints) → derives_ending_clause formula (ClauseWithHints n zs hints) ≡ false
      → IsTidyStep s.moment.tables.clauses (ClauseWithHints n zs hints) → IsSearchIn true formula parities (told s (Step (ClauseWithHints n zs hints)))
  clause_keeps n zs hints is_right goes (right, clause, live, inside, proper) =
      let free = no_clause (get s.moment.tables.clauses n) is_right.1.0 in
      tell formula parities s ok (ClauseWithHints n zs hints) is_right goes
      (subst (λ b. MatchBool b (IsLearned s.moment (literals zs)) (derives_ending_clause formula (ClauseWithHints n zs hints) ≡ false → IsKnown s.moment (literals zs))) (sym at.tidy.served) (λ _. inr (clause, live, inside, proper)))
      (λ k ys is among. cc)
      right
      (put_serves formula parities s.trail s.quiet_levels s.moment.tables n (literals zs) free (λ k h. absurd (none_quiet k h)) ok.serves)
      (put_covered formula s.moment.tables.clauses (rows_in s.moment) n (literals zs) free ok.covered)
      (unlearned_plain s.moment.tables.clauses n (literals zs) s.moment.learned s.moment.awaits at.tidy.served free ok.plain)

  -- a deletion that leaves a clause inside the deleted one, or deletes a tautology
  module _ (n : ℕ) (zs : List ℤ) (tidy : IsTidyStep s.moment.tables.clauses (Delete n zs)) where
    spared : IsSpared formula s.moment n
    spared clause c = elim (ok.covered clause c) [
      | inl both ↦ inl both
      | inr (k, cover) ↦ by_cases (nat_eq k n)
          (λ same. gone k cover (eqb-true k n same) tidy)
          (λ differs. inr (k, (λ same. true≢false (sym (eq-eqb k n same) ∙ differs)), cover))
    ]
      where
        is : (k : ℕ) (cover : IsCover s.moment.tables.clauses (rows_in s.moment) clause k) → k ≡ n → clause_at s.moment.tables.clauses n ≡ cover.inner
        is k cover same = ap (clause_at s.moment.tables.clauses) (sym same) ∙ clause_is s.moment.tables.clauses k cover.inner cover.live

        gone : (k : ℕ) → IsCover s.moment.tables.clauses (rows_in s.moment) clause k → k ≡ n → IsTidyStep s.moment.tables.clauses (Delete n zs)
            → (is_tautology clause ≡ true) ⊎ ((j : ℕ) × (j ≢ n) × IsCover s.moment.tables.clauses (rows_in s.moment) clause j)
        gone k cover same (inl both) = inl (tautology_inside cover.inner clause cover.inside (ap is_tautology (sym (is k cover same)) ∙ both))
        gone k cover same (inr (j, apart, inner, live, inside)) = inr (
          j,
          apart,
          record {
            inner = inner;
            live = live;
            inside = inside_through inner cover.inner clause (ap (is_inside inner) (sym (is k cover same)) ∙ inside) cover.inside;
            no_row = ap (λ ids. is_among ids j) no_rows;
          },
        )

    -- a learned clause leaves one inside it
    leaves_one : is_among s.moment.learned n ≡ true → is_covered_without s.moment.tables.clauses n (clause_at s.moment.tables.clauses n) ≡ true
    leaves_one among = go tidy
      where
        go : IsTidyStep s.moment.tables.clauses (Delete n zs) → is_covered_without s.moment.tables.clauses n (clause_at s.moment.tables.clauses n) ≡ true
        go (inl both) =
            let p = plain_at s.moment.tables.clauses s.moment.learned n ok.plain among in
            not_both (is_tautology (clause_at s.moment.tables.clauses n)) both (ap is_tautology (clause_is s.moment.tables.clauses n p.0 p.1) ∙ p.2)
        go (inr (j, apart, inner, live, inside)) = covered_by s.moment.tables.clauses n j inner (clause_at s.moment.tables.clauses n) apart live inside

    allowed : IsAllowedDelete s.moment n
    allowed reduces =
        let parts = and_parts (is_among s.moment.learned n) (not (is_covered_without s.moment.tables.clauses n (clause_at s.moment.tables.clauses n))) reduces in
        absurd (true≢false (sym parts.1 ∙ ap not (leaves_one parts.0)))

    pub no_reduction : is_reduction s.moment n ≡ false
    no_reduction = by_cases (is_reduction s.moment n)
        (λ reduces.
        let parts = and_parts (is_among s.moment.learned n) (not (is_covered_without s.moment.tables.clauses n (clause_at s.moment.tables.clauses n))) reduces in
        absurd (true≢false (sym parts.1 ∙ ap not (leaves_one parts.0))))
        (λ none. none)

    may_go : MayFollow true s.events (Step (Delete n zs))
    may_go k ys is among =
        let same : n ≡ k = cc in
        let here = moment_is formula s.moment s.events ok.log.fits in
        inr (record {
          restart = subst IsRestart (sym (ap length ok.log.marks ∙ length-range_with_len 1 s.conflicts)) at.restart;
          covered = subst (λ (m : Moment). is_covered_without m.tables.clauses k (clause_at m.tables.clauses k) ≡ true) here
              (subst (λ i. is_covered_without s.moment.tables.clauses i (clause_at s.moment.tables.clauses i) ≡ true) same
              (leaves_one (subst (λ (m : Moment). is_among m.learned n ≡ true) (sym here) (subst (λ i. is_among (moment_after s.events).learned i ≡ true) (sym same) among))));
        })

    deletion_keeps : IsNoReason n s.trail → IsSearchIn true formula parities (told s (Step (Delete n zs)))
    deletion_keeps no_reason = tell formula parities s ok (Delete n zs) tt refl allowed may_go tt
        (drop_serves formula parities s.trail s.quiet_levels s.moment.tables n no_reason ok.serves)
        (drop_covered formula s.moment n spared)
        (drop_plain s.moment.tables.clauses n s.moment.learned ok.plain)

  pub step_keeps : (step : LogStep) → IsRight (log_calculus formula) s.moment.tables step → derives_ending_clause formula step ≡ false → IsTidyStep s.moment.tables.clauses step
      → ((n : ℕ) (zs : List ℤ) → step ≡ Delete n zs → IsNoReason n s.trail) → IsSearchIn true formula parities (told s (Step step)) × IsAtStart (told s (Step step))
  step_keeps (ClauseWithHints n zs hints) is_right goes tidy spare = (
    clause_keeps n zs hints is_right goes tidy,
    record {
      tidy = record { served = refl; no_old_clauses = at.tidy.no_old_clauses; no_new_clauses = at.tidy.no_new_clauses; no_old_sums = at.tidy.no_old_sums; no_new_sums = at.tidy.no_new_sums; levels = at.tidy.levels };
      level_0 = at.level_0;
      restart = at.restart;
    },
  )
  step_keeps (Delete n zs) is_right goes tidy spare = (
    deletion_keeps n zs tidy (spare n zs refl),
    record {
      tidy = record {
        served = at.tidy.served;
        no_old_clauses = ap (λ ids. without ids n) at.tidy.no_old_clauses;
        no_new_clauses = ap (λ ids. without ids n) at.tidy.no_new_clauses;
        no_old_sums = at.tidy.no_old_sums;
        no_new_sums = at.tidy.no_new_sums;
        levels = at.tidy.levels;
      };
      level_0 = at.level_0;
      restart = at.restart;
    },
  )
  step_keeps (Clause n zs) is_right goes tidy spare = absurd tidy
  step_keeps (Original n zs) is_right goes tidy spare = absurd tidy
  step_keeps (OriginalParity n zs) is_right goes tidy spare = absurd tidy
  step_keeps (Parity n zs sources) is_right goes tidy spare = absurd tidy
  step_keeps (ClauseOfParity n zs source) is_right goes tidy spare = absurd tidy
  step_keeps (ParityOfClauses n zs sources) is_right goes tidy spare = absurd tidy
  step_keeps (DeleteParity n zs) is_right goes tidy spare = absurd tidy
  step_keeps (Final n zs) is_right goes tidy spare = absurd tidy
  step_keeps (FinalParity n zs) is_right goes tidy spare = absurd tidy
  step_keeps (MoveClauses moves) is_right goes tidy spare = absurd tidy
  step_keeps (MoveParities moves) is_right goes tidy spare = absurd tidy

-- ---- a list of steps
pub told_events : (s : Search) (steps : List LogStep) → (steps_told s steps).events ≡ s.events ++ map Step steps
told_events s [] = sym (append-nil s.events)
told_events s (step ∷ steps) = told_events (told s (Step step)) steps ∙ append_assoc s.events (Step step ∷ []) (map Step steps)

pub told_conflicts : (s : Search) (steps : List LogStep) → (steps_told s steps).conflicts ≡ s.conflicts
told_conflicts s [] = refl
told_conflicts s (step ∷ steps) = told_conflicts (told s (Step step)) steps

pub tidy_steps_keep : (formula : Problem) (parities : List (List Literal)) (s : Search) → IsSearchIn true formula parities s → IsAtStart s → (steps : List LogStep) (last : Tables) → RunsTidily formula s.moment.tables steps last
    → SpareReasons s.trail steps → IsSearchIn true formula parities (steps_told s steps) × IsAtStart (steps_told s steps) × ((steps_told s steps).moment.tables ≡ last)
tidy_steps_keep formula parities s ok at [] last runs spare = (ok, at, sym runs)
tidy_steps_keep formula parities s ok at (step ∷ steps) last (is_right, goes, tidy, runs) spare =
    let one = step_keeps formula parities s ok at step is_right goes tidy spare.0 in
    tidy_steps_keep formula parities (told s (Step step)) one.0 one.1 steps last runs spare.1

-- ---- steps that end the log
spare_front : (trail : List Entry) (steps more : List LogStep) → SpareReasons trail (steps ++ more) → SpareReasons trail steps
spare_front trail [] more h = tt
spare_front trail (step ∷ steps) more h = (h.0, spare_front trail steps more h.1)

module _ (formula : Problem) (parities : List (List Literal)) (s : Search) (ok : IsSearchIn true formula parities s) (at : IsAtStart s) (lits : List Literal) (steps : List LogStep) (e : EndsTidily formula s.moment.tables lits steps)
    (spare : SpareReasons s.trail steps) where
  abbrev s1 : Search
  s1 = steps_told s e.before

  told_all : s.events ++ map Step steps ≡ (s.events ++ map Step e.before) ++ Step e.step ∷ []
  told_all = ap (λ xs. s.events ++ xs) (ap (map Step) e.split ∙ map-append Step e.before (e.step ∷ [])) ∙ sym (append_assoc s.events (map Step e.before) (Step e.step ∷ []))

  kept : IsSearchIn true formula parities s1 × IsAtStart s1 × (s1.moment.tables ≡ e.last)
  kept = tidy_steps_keep formula parities s ok at e.before e.last e.runs (spare_front s.trail e.before (e.step ∷ []) (subst (SpareReasons s.trail) e.split spare))

  right_then : IsRight (log_calculus formula) s1.moment.tables e.step
  right_then = subst (λ tables. IsRight (log_calculus formula) tables e.step) (sym kept.2) e.right

  events_then : s1.events ++ Step e.step ∷ [] ≡ s.events ++ map Step steps
  events_then = ap (λ es. es ++ Step e.step ∷ []) (told_events s e.before) ∙ sym told_all

  pub tidy_steps_end : IsEnded formula (s.events ++ map Step steps)
  tidy_steps_end = subst (IsEnded formula) events_then (last_step_ends formula parities s1 kept.0 e.step right_then e.ends)

  pub tidy_steps_fail : IsFailed formula (negations lits)
  tidy_steps_fail = subst (λ xs. IsFailed formula (negations xs)) e.adds (last_step_fails formula parities s1 kept.0 e.step right_then e.ends)

  pub tidy_end_is_marked : Marked formula (s.events ++ map Step steps) s.conflicts
  tidy_end_is_marked = subst (Marked formula (s.events ++ map Step steps)) (told_conflicts s e.before) (subst (λ es. Marked formula es s1.conflicts) events_then (marked_by e.by_chain.0 e.by_chain.1 e.by_chain.2 e.by_chain.3))
    where
      marked_by : (n : ℕ) (zs hints : List ℤ) → e.step ≡ ClauseWithHints n zs hints → Marked formula (s1.events ++ Step e.step ∷ []) s1.conflicts
      marked_by n zs hints is = subst (λ step. Marked formula (s1.events ++ Step step ∷ []) s1.conflicts) (sym is)
          (chained_clause_is_marked formula parities s1 kept.0 n zs hints kept.1.tidy.served (ap (derives_ending_clause formula) (sym is) ∙ e.ends))

  pub tidy_end_is_hinted : AreHinted (s.events ++ map Step steps)
  tidy_end_is_hinted = subst AreHinted events_then (hinted_by e.by_chain.0 e.by_chain.1 e.by_chain.2 e.by_chain.3 e.by_chain.4)
    where
      hinted_by : (n : ℕ) (zs hints : List ℤ) → e.step ≡ ClauseWithHints n zs hints → AreHintsFor e.last.clauses (literals zs) hints → AreHinted (s1.events ++ Step e.step ∷ [])
      hinted_by n zs hints is right = subst (λ step. AreHinted (s1.events ++ Step step ∷ [])) (sym is)
          (chained_clause_is_hinted formula parities s1 kept.0 n zs hints (subst (λ (tables : Tables). AreHintsFor tables.clauses (literals zs) hints) (sym kept.2) right))

  pub tidy_end_is_scheduled : IsScheduledIn true (s.events ++ map Step steps)
  tidy_end_is_scheduled = subst (IsScheduledIn true) events_then (scheduled_by e.by_chain.0 e.by_chain.1 e.by_chain.2 e.by_chain.3)
    where
      scheduled_by : (n : ℕ) (zs hints : List ℤ) → e.step ≡ ClauseWithHints n zs hints → IsScheduledIn true (s1.events ++ Step e.step ∷ [])
      scheduled_by n zs hints is = subst (λ step. IsScheduledIn true (s1.events ++ Step step ∷ [])) (sym is) (chained_clause_is_scheduled formula parities s1 kept.0 n zs hints)
