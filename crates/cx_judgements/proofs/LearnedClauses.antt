-- A marked log learns a clause for each mark, at a place of its own.
use Rattle.std.proofs.Common.{◌≡◌, refl, sym, ap, ◌∙◌, subst, ℕ, zero, suc, ◌+◌, ◌-◌, ◌<◌, ◌≤◌, Bool, true, false, true≢false, ◌||◌, List, [], ◌∷◌, ◌++◌, append_assoc, fold, length, filter_map, Some, ◌⊎◌, inl, inr, arith}
use Rattle.std.specs.Prelude.{IsTrue, IsFalse, MatchBool}
use Rattle.std.specs.List.{list_any, range_with_len}
use Rattle.std.proofs.lemmas.List.Elements.{filter_map-append}
use Rattle.std.proofs.lemmas.List.Sums.{fold-append}
use Rattle.cx_base.specs.Literals.{Literal}
use Rattle.cx_base.specs.Problem.{Problem}
use Rattle.cx_base.specs.Assumptions.{is_ending}
use Rattle.cx_base.specs.Integers.{literals}
use Rattle.cx_base.specs.Events.{steps_of}
use Rattle.cx_base.specs.declared.steps.LogStep.{LogStep}
use Rattle.cx_base.specs.declared.steps.LogStep.TheVariants.{Clause, ClauseWithHints}
use Rattle.cx_base.specs.declared.steps.LogEvent.{LogEvent}
use Rattle.cx_base.specs.declared.steps.LogEvent.TheVariants.{Step, Conflict}
use Rattle.cx_semantics.specs.Fresh.{Fresh}
use Rattle.cx_semantics.specs.LogRules.{after_log_step}
use Rattle.cx_semantics.specs.Marked.{Marked, Moment, first_moment, after_event, mark_of, EventFits, EventsFit, IsLearned, IsKnown, StepFits, KeepsFormula}
use Rattle.cx_semantics.specs.Tables.{Table, Tables}
use Rattle.cx_judgements.specs.LearnedClauses.{live_after, added_clause, is_mark_or_added, AddsAfter, AwaitsClauseOf, LearnsFrom, IsPart, IsNotCounted, LearnsClauses}

-- ---- what an event finds

abbrev moment_after : Moment → List LogEvent → Moment
moment_after m events = fold after_event m events

tables_after : (m : Moment) (events : List LogEvent) → (moment_after m events).tables ≡ fold after_log_step m.tables (steps_of events)
tables_after m [] = refl
tables_after m (Step step ∷ events) = tables_after (after_event m (Step step)) events
tables_after m (Conflict k ∷ events) = tables_after (after_event m (Conflict k)) events

found : (front : List LogEvent) → (moment_after first_moment front).tables.clauses ≡ (live_after front).clauses
found front = ap (λ (t : Tables). t.clauses) (tables_after first_moment front)

fits_at : (formula : Problem) (m last : Moment) (front : List LogEvent) (event : LogEvent) (later : List LogEvent) → EventsFit formula m (front ++ event ∷ later) last
    → EventFits formula (moment_after m front) event × EventsFit formula (after_event (moment_after m front) event) later last
fits_at formula m last [] event later h = h
fits_at formula m last (x ∷ front) event later h = fits_at formula (after_event m x) last front event later h.1

-- ---- the mark of a conflict, and the clause after it

mark_at : (events : List LogEvent) (s n i : ℕ) → filter_map mark_of events ≡ range_with_len s n → i < n
    → (front : List LogEvent) × (later : List LogEvent) × (events ≡ front ++ Conflict (s + i) ∷ later)
mark_at [] s zero i marks less = absurd (omega (arith, less))
mark_at [] s (suc n) i marks less = cc
mark_at (Step step ∷ events) s n i marks less = let r = mark_at events s n i marks less in (Step step ∷ r.0, r.1, ap (λ es. Step step ∷ es) r.2)
mark_at (Conflict j ∷ events) s zero i marks less = absurd (omega (arith, less))
mark_at (Conflict j ∷ events) s (suc n) zero marks less =
    let first : j ≡ s = cc in
    let same : j ≡ s + 0 = first ∙ omega arith in
    ([], events, ap (λ k. Conflict k ∷ events) same)
mark_at (Conflict j ∷ events) s (suc n) (suc i) marks less =
    let rest : filter_map mark_of events ≡ range_with_len (s + 1) n = cc in
    let r = mark_at events (s + 1) n i rest (omega (arith, less)) in
    let same : s + 1 + i ≡ s + suc i = omega arith in
    (Conflict j ∷ r.0, r.1, ap (λ es. Conflict j ∷ es) (r.2 ∙ ap (λ k. r.0 ++ Conflict k ∷ r.1) same))

-- the next clause that an `a` step adds, with no mark before it
record Next (m : Moment) (events : List LogEvent) : Type 0 where
  since : List LogEvent
  lits : List Literal
  added : AddsAfter events since lits
  none_yet : IsFalse (list_any is_mark_or_added since)
  learned : IsLearned (moment_after m since) lits

next_behind : (m : Moment) (x : LogEvent) (events : List LogEvent) → is_mark_or_added x ≡ false → Next (after_event m x) events → Next m (x ∷ events)
next_behind m x events plain r = record {
  since = x ∷ r.since;
  lits = r.lits;
  added = record { step = r.added.step; later = r.added.later; split = ap (λ es. x ∷ es) r.added.split; adds = r.added.adds };
  none_yet = rw plain r.none_yet;
  learned = r.learned;
}

learned_by : (m : Moment) (lits : List Literal) (Other : Type 0) → m.awaits ≡ true → MatchBool m.awaits (IsLearned m lits) Other → IsLearned m lits
learned_by m lits Other waits h = subst (λ b. MatchBool b (IsLearned m lits) Other) waits h

next_clause : (formula : Problem) (m last : Moment) (events : List LogEvent) → m.awaits ≡ true → EventsFit formula m events last → last.awaits ≡ false → Next m events
next_clause formula m last [] waits fit served = absurd (true≢false (sym waits ∙ sym (ap (λ (x : Moment). x.awaits) fit) ∙ served))
next_clause formula m last (Conflict k ∷ events) waits fit served = absurd (true≢false (sym waits ∙ fit.0.served))
next_clause formula m last (Step (Clause n lits) ∷ events) waits fit served = record {
  since = [];
  lits = literals lits;
  added = record { step = Clause n lits; later = events; split = refl; adds = refl };
  none_yet = refl;
  learned = learned_by m (literals lits) _ waits fit.0;
}
next_clause formula m last (Step (ClauseWithHints n lits hints) ∷ events) waits fit served = record {
  since = [];
  lits = literals lits;
  added = record { step = ClauseWithHints n lits hints; later = events; split = refl; adds = refl };
  none_yet = refl;
  learned = learned_by m (literals lits) _ waits fit.0;
}
next_clause formula m last (Step step ∷ events) waits fit served =
    next_behind m (Step step) events refl (next_clause formula (after_event m (Step step)) last events waits fit.1 served)

-- ---- the clauses that are added where none is awaited

awaits_behind : (x : LogEvent) (events : List LogEvent) → ((k : ℕ) × AwaitsClauseOf k events) → (k : ℕ) × AwaitsClauseOf k (x ∷ events)
awaits_behind x events (k, r) = (k, record { before = x ∷ r.before; since = r.since; split = ap (λ es. x ∷ es) r.split; none_yet = r.none_yet })

abbrev Awaits : Bool → List LogEvent → Type 0
Awaits first events = (IsTrue first × IsFalse (list_any is_mark_or_added events)) ⊎ ((k : ℕ) × AwaitsClauseOf k events)

awaits : (m : Moment) (events : List LogEvent) → (moment_after m events).awaits ≡ true → Awaits m.awaits events
awaits m [] waits = inl (waits, refl)
awaits m (Conflict k ∷ events) waits = by (awaits (after_event m (Conflict k)) events waits)
  where
    by : Awaits true events → Awaits m.awaits (Conflict k ∷ events)
    by (inl none) = inr (k, record { before = []; since = events; split = refl; none_yet = none.1 })
    by (inr later) = inr (awaits_behind (Conflict k) events later)
awaits m (Step (Clause n lits) ∷ events) waits = by (awaits (after_event m (Step (Clause n lits))) events waits)
  where
    by : Awaits false events → Awaits m.awaits (Step (Clause n lits) ∷ events)
    by (inl none) = absurd (true≢false (sym none.0))
    by (inr later) = inr (awaits_behind (Step (Clause n lits)) events later)
awaits m (Step (ClauseWithHints n lits hints) ∷ events) waits = by (awaits (after_event m (Step (ClauseWithHints n lits hints))) events waits)
  where
    by : Awaits false events → Awaits m.awaits (Step (ClauseWithHints n lits hints) ∷ events)
    by (inl none) = absurd (true≢false (sym none.0))
    by (inr later) = inr (awaits_behind (Step (ClauseWithHints n lits hints)) events later)
awaits m (Step step ∷ events) waits = by (awaits (after_event m (Step step)) events waits)
  where
    by : Awaits m.awaits events → Awaits m.awaits (Step step ∷ events)
    by (inl none) = inl none
    by (inr later) = inr (awaits_behind (Step step) events later)

abbrev IsCountedOrNot : Problem → List LogEvent → List Literal → Type 0
IsCountedOrNot formula front lits = ((k : ℕ) × AwaitsClauseOf k front) ⊎ IsNotCounted formula (live_after front).clauses lits

counted_or_not : (formula : Problem) (front : List LogEvent) (lits : List Literal) (ending : Bool) → is_ending formula.constraints lits ≡ ending
    → (b : Bool) → (moment_after first_moment front).awaits ≡ b
    → MatchBool b (IsLearned (moment_after first_moment front) lits) (IsFalse (is_ending formula.constraints lits) → IsKnown (moment_after first_moment front) lits)
    → IsCountedOrNot formula front lits
counted_or_not formula front lits ending ends true waits h = elim (awaits first_moment front waits) [ inl none ↦ absurd (true≢false (sym none.0)) | inr later ↦ inl later ]
counted_or_not formula front lits true ends false waits h = inr (inl ends)
counted_or_not formula front lits false ends false waits h =
    inr (inr (subst (λ (t : Table). ((length lits ≡ 1) × ¬ Fresh t lits) ⊎ IsPart t lits) (found front) (h ends)))

step_counted : (formula : Problem) (front : List LogEvent) (step : LogStep) (lits : List Literal) → added_clause step ≡ Some lits → StepFits formula (moment_after first_moment front) step
    → IsCountedOrNot formula front lits
step_counted formula front (Clause n zs) lits adds fits =
    let same : literals zs ≡ lits = cc in
    subst (IsCountedOrNot formula front) same (counted_or_not formula front (literals zs) (is_ending formula.constraints (literals zs)) refl (moment_after first_moment front).awaits refl fits)
step_counted formula front (ClauseWithHints n zs hints) lits adds fits =
    let same : literals zs ≡ lits = cc in
    subst (IsCountedOrNot formula front) same (counted_or_not formula front (literals zs) (is_ending formula.constraints (literals zs)) refl (moment_after first_moment front).awaits refl fits)
step_counted formula front step lits adds fits = cc

-- ---- the last mark of some events

no_marks : (events : List LogEvent) → list_any is_mark_or_added events ≡ false → filter_map mark_of events ≡ []
no_marks [] none = refl
no_marks (Conflict k ∷ events) none = absurd (true≢false none)
no_marks (Step step ∷ events) none = no_marks events (rest (is_mark_or_added (Step step)) none)
  where
    rest : (b : Bool) → (b || list_any is_mark_or_added events) ≡ false → list_any is_mark_or_added events ≡ false
    rest true h = absurd (true≢false h)
    rest false h = h

marks_to : (k : ℕ) (events : List LogEvent) → (a : AwaitsClauseOf k events) → filter_map mark_of events ≡ filter_map mark_of a.before ++ k ∷ []
marks_to k events a =
    ap (filter_map mark_of) a.split ∙ filter_map-append mark_of a.before (Conflict k ∷ a.since) ∙ ap (λ ks. filter_map mark_of a.before ++ k ∷ ks) (no_marks a.since a.none_yet)

last_one : (xs ys : List ℕ) (j k : ℕ) → xs ++ j ∷ [] ≡ ys ++ k ∷ [] → j ≡ k
last_one [] [] j k e = cc
last_one [] (y ∷ []) j k e = cc
last_one [] (y ∷ z ∷ ys) j k e = cc
last_one (x ∷ []) [] j k e = cc
last_one (x ∷ z ∷ xs) [] j k e = cc
last_one (x ∷ xs) (y ∷ ys) j k e = let rest : xs ++ j ∷ [] ≡ ys ++ k ∷ [] = cc in last_one xs ys j k rest

-- ---- the law

module _ (formula : Problem) (events : List LogEvent) (n : ℕ) (h : Marked formula events n) where
  learns_from : (k : ℕ) → 1 ≤ k → k ≤ n → LearnsFrom k events
  learns_from k low high =
      let r = mark_at events 1 n (k - 1) h.marks (omega (arith, low, high)) in
      let same : 1 + (k - 1) ≡ k = omega (arith, low) in
      let split : events ≡ r.0 ++ Conflict k ∷ r.1 = r.2 ∙ ap (λ j. r.0 ++ Conflict j ∷ r.1) same in
      let fits = fits_at formula first_moment h.last r.0 (Conflict k) r.1 (subst (λ es. EventsFit formula first_moment es h.last) split h.fit) in
      let next = next_clause formula (after_event (moment_after first_moment r.0) (Conflict k)) h.last r.1 refl fits.1 h.served in
      by r.0 r.1 split next
    where
      by : (front later : List LogEvent) → events ≡ front ++ Conflict k ∷ later → Next (after_event (moment_after first_moment front) (Conflict k)) later → LearnsFrom k events
      by front later split next = record {
        front = front ++ Conflict k ∷ next.since;
        lits = next.lits;
        added = record {
          step = next.added.step;
          later = next.added.later;
          split = split ∙ ap (λ es. front ++ Conflict k ∷ es) next.added.split ∙ sym (append_assoc front (Conflict k ∷ next.since) (Step next.added.step ∷ next.added.later));
          adds = next.added.adds;
        };
        awaited = record { before = front; since = next.since; split = refl; none_yet = next.none_yet };
        has_literal = next.learned.0;
        fresh = subst (λ (t : Table). Fresh t next.lits) (reached front next.since) next.learned.1;
      }
        where
          reached : (xs ys : List LogEvent) → (moment_after (after_event (moment_after first_moment xs) (Conflict k)) ys).tables.clauses ≡ (live_after (xs ++ Conflict k ∷ ys)).clauses
          reached xs ys = ap (λ (m : Moment). m.tables.clauses) (sym (fold-append after_event first_moment xs (Conflict k ∷ ys))) ∙ found (xs ++ Conflict k ∷ ys)

  pub learns_clauses : LearnsClauses formula events n
  learns_clauses = record {
    each = learns_from;
    apart = λ front j k a b. last_one (filter_map mark_of a.before) (filter_map mark_of b.before) j k (sym (marks_to j front a) ∙ marks_to k front b);
    no_other = λ front lits added.
        step_counted formula front added.step lits added.adds
        (fits_at formula first_moment h.last front (Step added.step) added.later (subst (λ es. EventsFit formula first_moment es h.last) added.split h.fit)).0;
    kept = λ front later k split.
        subst (KeepsFormula formula) (found front)
        (fits_at formula first_moment h.last front (Conflict k) later (subst (λ es. EventsFit formula first_moment es h.last) split h.fit)).0.kept;
  }
