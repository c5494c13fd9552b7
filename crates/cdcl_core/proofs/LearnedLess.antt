-- One learned clause less: in the arena, in the log, and in the search.
use Rattle.std.proofs.Common.{◌≡◌, ◌≢◌, refl, sym, ap, ◌∙◌, subst, ℕ, zero, suc, ◌+◌, ◌-◌, ◌*◌, ◌<◌, ◌≤◌, Bool, true, false, true≢false, not, cond, nat_eq, eqb-true, List, [], ◌∷◌, length, get_or, Option, Some, None, Contains, inl, inr, arith}
use Rattle.std.specs.Prelude.{IsSome, IsTrue, IsFalse, slice_set, if◌then◌else◌}
use Rattle.std.proofs.lemmas.List.{length-set, get_or-set_other}
use Rattle.std.proofs.lemmas.List.FromFn.{length-range_with_len}
use Rattle.std.proofs.lemmas.Bool.{and_parts, and_from}
use Rattle.std.specs.FinMap as map_
use Rattle.cx_base.specs.Literals.{Literal, HasTwo}
use Rattle.cx_base.specs.Problem.{Problem, clauses_of}
use Rattle.cx_base.specs.declared.steps.LogStep.TheVariants.{Delete}
use Rattle.cx_base.specs.declared.steps.LogEvent.{LogEvent}
use Rattle.cx_base.specs.declared.steps.LogEvent.TheVariants.{Step}
use Rattle.cx_semantics.specs.Chain.{has_literal, is_inside}
use Rattle.cx_semantics.specs.Marked.{Moment, is_among, without}
use Rattle.cx_semantics.specs.Settled.{IsClauseOf}
use Rattle.cx_semantics.specs.Tables.{get}
use Rattle.cx_semantics.proofs.Closure.{has_by_inside}
use Rattle.cx_trail.specs.Sequence.{entry_at}
use Rattle.clause_arena.specs.Clauses.{ArenaState, Stored, IsLive, clause_at, literals_at, literals_in, id_at, id_in, learned_at, learned_in}
use Rattle.watch_lists.specs.Watching.{WatchState}
use Rattle.watch_lists.specs.Detaching.{IsDetached}
use Rattle.watch_lists.proofs.DetachLaws.{detached_fits}
use Rattle.conflict_learn.proofs.ChainOfResolutions.{by_cases}
use Rattle.parity_engine.specs.State.{State}
use Rattle.tidy_rules.proofs.InsideLaws.{inside_through}
use Rattle.search_steps.specs.Covers.{IsCover, IsSpared, rows_in}
use Rattle.search_steps.specs.Quiet.{HasTrue}
use Rattle.search_steps.specs.Trail.{Entry, by_clause, held, all_held}
use Rattle.search_steps.specs.LogSteps.{IsNoReason}
use Rattle.search_steps.specs.Search.{Search, IsSearchIn, told}
use Rattle.search_steps.specs.Schedule.{IsInReduction, IsRestart}
use Rattle.search_steps.specs.Size.{additions}
use Rattle.search_steps.proofs.ScheduleLaws.{moment_is, reduction_may_begin, reduction_goes_on}
use Rattle.search_steps.proofs.LogLaws.{delete_learned_keeps}
use Rattle.search_steps.proofs.Bridge.{held_is_true}
use Rattle.search_steps.proofs.IdLaws.{deletion_ranged, low_is_cover}
use Rattle.search_steps.proofs.SizeLaws.{additions_join}
use Rattle.search_steps.proofs.TrailLaws.{held_inside}
use Rattle.search_steps.proofs.Stored.{has_of, of_has}
use Rattle.cdcl_search.specs.declared.state.SearchState.{SearchState}
use Rattle.conflict_learn.specs.declared.fault.CoreFault.{CoreFault}
use Rattle.cdcl_search.specs.declared.logs.SearchLog.{SearchLog}
use Rattle.step_text.specs.declared.sink.Sink as sink
use Rattle.cdcl_search.specs.Logs.{GoesOn}
use Rattle.cdcl_search.specs.Tells.{IsLeft, with_events}
use Rattle.cdcl_core.proofs.TidyBefore.{tidy_still}
use Rattle.cdcl_search.specs.Ties.{IsNamedBy, first_row_id}
use Rattle.cdcl_search.specs.Ties.{Ties, SearchStands, IsKept, IsHeld, NeedsNoLearned, AreLearned, RestOnUnits, IsFallingFrom}
use Rattle.cdcl_core.specs.Reducing.{SearchLoses, WasWatched}
use Rattle.cdcl_search.proofs.LearnedIds.{among_without}
use Rattle.cdcl_search.proofs.UnitTies.{falls_lower}
use Rattle.cdcl_search.proofs.Places.{tied_length}
use Rattle.cdcl_core.proofs.EndingLaws.{no_newer}
use Rattle.cdcl_search.proofs.RowSteps.{all_told_are, is_left}
use Rattle.cdcl_search.proofs.TableLaws.{apart, no_clause, drop_other, named_stays}

-- ---- lists of ids
below_stays : (top : ℕ) (ns : List ℕ) (n : ℕ) → IsFallingFrom top ns → top ≤ n → without ns n ≡ ns
below_stays top [] n f low = refl
below_stays top (x ∷ ns) n f low =
    let first = f.0 in
    ap (λ b. cond (not b) (x ∷ without ns n) (without ns n)) (apart n x (λ e. omega (arith, e, first, low))) ∙ ap (λ xs. x ∷ xs) (below_stays x ns n f.1 (omega (arith, first, low)))

one_less : (top : ℕ) (ns : List ℕ) (n : ℕ) → IsFallingFrom top ns → length ns ≤ length (without ns n) + 1
one_less top [] n f = omega arith
one_less top (x ∷ ns) n f = by_cases (nat_eq n x)
    (λ e. let long = ap length (ap (λ b. cond (not b) (x ∷ without ns n) (without ns n)) e ∙ below_stays x ns n f.1 (let same = eqb-true n x e in omega (arith, same))) in omega (arith, long))
    (λ e. let long = ap length (ap (λ b. cond (not b) (x ∷ without ns n) (without ns n)) e) in let rec = one_less x ns n f.1 in omega (arith, long, rec))

pub falls_without : (top : ℕ) (ns : List ℕ) (n : ℕ) → IsFallingFrom top ns → IsFallingFrom top (without ns n)
falls_without top [] n f = tt
falls_without top (x ∷ ns) n f =
    let first = f.0 in
    elim (not (nat_eq n x)) as (λ b. IsFallingFrom top (cond b (x ∷ without ns n) (without ns n))) [
      | true ↦ (first, falls_without x ns n f.1)
      | false ↦ falls_lower x top (without ns n) (omega (arith, first)) (falls_without x ns n f.1)
    ]

counted : (b : Bool) (k x : ℕ) → k < x → (if b then k + 1 else k) ≤ x
counted true k x h = omega (arith, h)
counted false k x h = omega (arith, h)

-- ---- reasons
pub no_reason : (ids : List ℕ) (n : ℕ) (es : List Entry) → RestOnUnits ids es → ((i : ℕ) → i < length ids → get_or ids i 0 ≢ n) → IsNoReason n es
no_reason ids n [] r not = tt
no_reason ids n (e ∷ es) ((i, less, is), r) not = (λ w. not i less (let k : by_clause (get_or ids i 0) ≡ by_clause n = sym is ∙ w in cc (k)), no_reason ids n es r not)

-- ---- the arena
gone : (xs : List (Option Stored)) (r : ℕ) → get_or (slice_set xs r None) r None ≡ None
gone [] r = refl
gone (x ∷ xs) zero = refl
gone (x ∷ xs) (suc r) = gone xs r

only_one : (l m : Literal) → Contains (l ∷ []) m → m ≡ l
only_one l m (zero, less, is) = sym is
only_one l m (suc i, less, is) = absurd (omega (arith, less))

module _ (a : ArenaState) (r : ℕ) where
  abbrev pub less : ArenaState
  less = record a { clauses = slice_set a.clauses r None }

  other_stays : (q : ℕ) → q ≢ r → clause_at less q ≡ clause_at a q
  other_stays q h = get_or-set_other a.clauses r q None None h

  is_other : (q : ℕ) → IsLive less q → q ≢ r
  is_other q live same = true≢false (sym live ∙ ap Rattle.std.specs.Prelude.is_some (ap (clause_at less) same ∙ gone a.clauses r))

  was_live : (q : ℕ) → IsLive less q → IsLive a q
  was_live q live = subst IsSome (other_stays q (is_other q live)) live

  still_live : (q : ℕ) → q ≢ r → IsLive a q → IsLive less q
  still_live q h live = subst IsSome (sym (other_stays q h)) live

module _ (formula : Problem) (c : SearchState) (e : State) (s : Search) (ok : IsSearchIn c.tidies formula e.parities s) (p : Ties formula c e [] s) (r : ℕ) (live : IsLive c.arena r) (was_learned : IsTrue (learned_at c.arena r))
    (all_units : length c.units.items ≡ length c.trail.entries) (fresh : s.moment.reductions < c.reductions) (enough : 751 + 250 * c.reductions ≤ c.learned)
    (reducing : IsInReduction s.events) where
  abbrev n : ℕ
  n = id_at c.arena r

  abbrev after : Search
  after = told s (Step (Delete n []))

  abbrev b : ArenaState
  b = less c.arena r

  here : IsKept formula s.moment.tables.clauses c.next c.arena r
  here = p.clauses.stored r live

  no_unit : (l : Literal) → IsNamedBy s.moment.tables.clauses (l ∷ []) n → ⊥
  no_unit l u = here.wide.differ (is_l here.wide.first here.wide.has_first ∙ sym (is_l here.wide.second here.wide.has_second))
    where
      one : here.named.clause ≡ u.clause
      one = let k : Some here.named.clause ≡ Some u.clause = sym here.named.live ∙ u.live in cc (k)

      is_l : (m : Literal) → Contains (literals_at c.arena r) m → m ≡ l
      is_l m has = only_one l m (of_has (l ∷ []) m (has_by_inside u.clause (l ∷ []) m (and_parts (is_inside (l ∷ []) u.clause) (is_inside u.clause (l ∷ [])) u.same).1
          (ap (λ x. has_literal x m) (sym one) ∙ has_by_inside (literals_at c.arena r) here.named.clause m (and_parts (is_inside (literals_at c.arena r) here.named.clause) (is_inside here.named.clause (literals_at c.arena r)) here.named.same).0 (has_of (literals_at c.arena r) m has))))

  not_unit : (i : ℕ) → i < length c.units.items → get_or c.units.items i 0 ≢ n
  not_unit i h same = no_unit (entry_at c.trail.entries i).literal (subst (IsNamedBy s.moment.tables.clauses ((entry_at c.trail.entries i).literal ∷ [])) same (p.units.named i h))

  is_no_reason : IsNoReason n s.trail
  is_no_reason = no_reason c.units.items n s.trail
      (subst (RestOnUnits c.units.items) (no_newer p.units.newer p.units.older s.trail p.units.parts (p.units.count ∙ all_units ∙ sym (tied_length s.trail c.trail.entries p.trail.follows.tied))) p.units.rest) not_unit

  -- ---- each clause of the formula has another one inside it
  below : (k : ℕ) → k < c.next → k < first_row_id c.next
  below k low = omega (arith, low)

  cover : (k : ℕ) (inner clause : List Literal) → k < c.next → get s.moment.tables.clauses k ≡ Some inner → is_inside inner clause ≡ true → IsCover s.moment.tables.clauses (rows_in s.moment) clause k
  cover k inner clause low live inside = low_is_cover formula (first_row_id c.next) c.next (first_row_id c.next + 0) s p.log.ranged k inner clause (below k low) live inside

  named_inside : (lits clause : List Literal) (k : ℕ) → k < c.next → (named : IsNamedBy s.moment.tables.clauses lits k) → is_inside lits clause ≡ true → IsCover s.moment.tables.clauses (rows_in s.moment) clause k
  named_inside lits clause k low named inside =
      cover k named.clause clause low named.live (inside_through named.clause lits clause (and_parts (is_inside lits named.clause) (is_inside named.clause lits) named.same).1 inside)

  by_unit : (clause : List Literal) → HasTrue (held 0 s.trail) clause → (k : ℕ) × (k ≢ n) × IsCover s.moment.tables.clauses (rows_in s.moment) clause k
  by_unit clause t =
      let at = held_is_true s.trail c.trail.entries p.trail.follows.tied t.l (has_by_inside (held 0 s.trail) (all_held s.trail) t.l (held_inside 0 s.trail) t.is_held) in
      let less : at.0 < length c.units.items = (let within = at.1.0 in omega (arith, within, all_units)) in
      let has : has_literal clause (entry_at c.trail.entries at.0).literal ≡ true = ap (has_literal clause) at.1.1 ∙ t.has_it in (
        get_or c.units.items at.0 0,
        not_unit at.0 less,
        named_inside ((entry_at c.trail.entries at.0).literal ∷ []) clause (get_or c.units.items at.0 0) (p.units.low at.0 less) (p.units.named at.0 less) (and_from (has_literal clause (entry_at c.trail.entries at.0).literal) true has refl),
      )

  other_learned : (q : ℕ) → IsFalse (learned_at c.arena q) → q ≢ r
  other_learned q original same = true≢false (sym was_learned ∙ ap (learned_at c.arena) (sym same) ∙ original)

  spared : IsSpared formula s.moment n
  spared clause is = elim (p.clauses.original clause is) [
    | inl both ↦ inl both
    | inr (inl t) ↦ inr (by_unit clause t)
    | inr (inr (q, q_live, original, inside)) ↦
        let k = p.clauses.stored q q_live in
        inr (id_at c.arena q, (λ same. other_learned q original (p.clauses.apart q r q_live live same)), named_inside (literals_at c.arena q) clause (id_at c.arena q) k.low k.named inside)
  ]

  original_then : (clause : List Literal) → IsClauseOf formula clause → NeedsNoLearned b (held 0 s.trail) clause
  original_then clause is = elim (p.clauses.original clause is) [
    | inl both ↦ inl both
    | inr (inl t) ↦ inr (inl t)
    | inr (inr (q, q_live, original, inside)) ↦
        let apart_q = other_learned q original in
        let same = other_stays c.arena r q apart_q in
        inr (inr (q, still_live c.arena r q apart_q q_live, ap learned_in same ∙ original, ap (λ o. is_inside (literals_in o) clause) same ∙ inside))
  ]

  left : length s.moment.learned ≤ length (without s.moment.learned n) + 1
  left = one_less c.next s.moment.learned n p.counts.falling

  pub is_search_then : IsSearchIn c.tidies formula e.parities after
  is_search_then = delete_learned_keeps formula e.parities s ok n [] spared is_no_reason
      (let many = p.counts.many in let one = left in omega (arith, fresh, enough, many, one)) reducing

  kept_then : (q : ℕ) → IsLive b q → IsKept formula after.moment.tables.clauses c.next b q
  kept_then q h =
      let was = was_live c.arena r q h in
      let k = p.clauses.stored q was in
      let same = other_stays c.arena r q (is_other c.arena r q h) in
      let other : id_at c.arena q ≢ n = λ i. is_other c.arena r q h (p.clauses.apart q r was live i) in
      record {
        wide = subst (λ o. HasTwo (literals_in o)) (sym same) k.wide;
        named = subst (λ o. IsNamedBy after.moment.tables.clauses (literals_in o) (id_in o)) (sym same) (named_stays s.moment.tables.clauses after.moment.tables.clauses _ _ (drop_other s.moment.tables.clauses n (id_at c.arena q) other) k.named);
        low = subst (λ o. id_in o < c.next) (sym same) k.low;
        late = subst (λ o. IsTrue (learned_in o) → length (clauses_of formula.constraints) < id_in o) (sym same) k.late;
      }

  covered_then : (m : ℕ) (clause : List Literal) → m < c.next → get after.moment.tables.clauses m ≡ Some clause → IsHeld c.tidies b (held 0 s.trail) m clause
  covered_then m clause m_low is =
      let other : m ≢ n = λ same. no_clause clause (sym is ∙ ap (get after.moment.tables.clauses) same ∙ Rattle.cdcl_search.proofs.TableLaws.drop_same s.moment.tables.clauses n) in
      elim (p.clauses.covered m clause m_low (sym (drop_other s.moment.tables.clauses n m other) ∙ is)) [
        | inl (q, q_live, id) ↦
            let apart_q : q ≢ r = λ same. other (sym id ∙ ap (id_at c.arena) same) in
            inl (q, still_live c.arena r q apart_q q_live, ap id_in (other_stays c.arena r q apart_q) ∙ id)
        | inr more ↦ inr more
      ]

  learned_stays : AreLearned b after.moment.learned
  learned_stays q h is =
      let was = was_live c.arena r q h in
      let same = other_stays c.arena r q (is_other c.arena r q h) in
      let other : id_at c.arena q ≢ n = λ i. is_other c.arena r q h (p.clauses.apart q r was live i) in
      ap (λ o. is_among (without s.moment.learned n) (id_in o)) same ∙ among_without s.moment.learned n (id_at c.arena q) other (p.learned q was (ap learned_in (sym same) ∙ is))

  abbrev d : SearchState
  d = record c { arena = b; learned = c.learned - 1 }

  additions_less : additions after.events ≡ additions s.events
  additions_less = let join = additions_join s.events (Step (Delete n []) ∷ []) in omega (arith, join)

  pub ties_less : Ties formula d e [] after
  ties_less = record {
    log = record {
      ranged = deletion_ranged formula (first_row_id c.next) c.next (first_row_id c.next + 0) s p.log.ranged n [];
      sums = p.log.sums;
      numbered = p.log.numbered;
      rows_told = λ i h. absurd (omega (arith, h));
      few_rows = omega arith;
      few_additions = λ plain. let was = p.log.few_additions plain in let same = additions_less in omega (arith, was, same);
      none_at_0 = drop_other s.moment.tables.clauses n 0 (λ same. let late = here.late was_learned in omega (arith, same, late)) ∙ p.log.none_at_0;
      served = record {
        served = p.log.served.served;
        old_clauses = ap (λ xs. without xs n) p.log.served.old_clauses;
        new_clauses = ap (λ xs. without xs n) p.log.served.new_clauses;
        old_sums = p.log.served.old_sums;
        new_sums = p.log.served.new_sums;
      };
    };
    clauses = record {
      stored = kept_then;
      covered = covered_then;
      apart = λ q k ql kl same. p.clauses.apart q k (was_live c.arena r q ql) (was_live c.arena r k kl)
          (ap id_in (sym (other_stays c.arena r q (is_other c.arena r q ql))) ∙ same ∙ ap id_in (other_stays c.arena r k (is_other c.arena r k kl)));
      original = original_then;
      old = tidy_still c.arena b c.tidy_below p.clauses.old (let within = p.clauses.old.within in let long = length-set c.arena.clauses r None in omega (arith, within, long)) (λ q low h. other_stays c.arena r q (is_other c.arena r q h));
    };
    learned = learned_stays;
    trail = p.trail;
    units = record {
      few = p.units.few;
      level_0 = p.units.level_0;
      named = λ i h. named_stays s.moment.tables.clauses after.moment.tables.clauses _ _ (drop_other s.moment.tables.clauses n (get_or c.units.items i 0) (not_unit i h)) (p.units.named i h);
      low = p.units.low;
      newer = p.units.newer;
      older = p.units.older;
      parts = p.units.parts;
      count = p.units.count;
      rest = p.units.rest;
      all = p.units.all;
    };
    engine = p.engine;
    reasons = λ i far within. absurd (omega (arith, far, within, all_units));
    counts = record {
      marked = p.counts.marked;
      falling = falls_without c.next s.moment.learned n p.counts.falling;
      many = let m = p.counts.many in let one = left in omega (arith, m, one);
      few = counted after.moment.reduces s.moment.reductions c.reductions fresh;
    };
    ids = p.ids;
    levels = p.levels;
  }

  pub watched_less : WasWatched c.watches c.arena c.trail → WasWatched c.watches b c.trail
  watched_less f = record { before = f.before; part = λ q h. other_stays c.arena r q (is_other c.arena r q h) ∙ f.part q (was_live c.arena r q h); watched = f.watched }

-- one deletion of a learned clause: the search fits the arena without it and the log with the deletion
pub one_deletion_keeps : (formula : Problem) (c : SearchState) (e : State) (told_ : Option (List LogEvent)) (st : SearchLoses formula c e told_) (r : ℕ) → IsLive c.arena r → IsTrue (learned_at c.arena r)
    → length c.units.items ≡ length c.trail.entries → 751 + 250 * c.reductions ≤ c.learned
    → SearchLoses formula (record c { arena = less c.arena r; learned = c.learned - 1 }) e (with_events (Step (Delete (id_at c.arena r) []) ∷ []) told_)
one_deletion_keeps formula c e told_ (s, ok, are, p, f, fresh, reducing) r live was_learned all_units enough = (
  told s (Step (Delete (id_at c.arena r) [])),
  is_search_then formula c e s ok p r live was_learned all_units fresh enough reducing,
  all_told_are (Step (Delete (id_at c.arena r) []) ∷ []) s told_ are,
  ties_less formula c e s ok p r live was_learned all_units fresh enough reducing,
  watched_less formula c e s ok p r live was_learned all_units fresh enough reducing f,
  fresh,
  reduction_goes_on s.events (id_at c.arena r) reducing,
)

-- ---- the ends of a reduction
pub reduction_begins : (formula : Problem) (c : SearchState) (e : State) (told_ : Option (List LogEvent)) → SearchStands formula c e [] told_ → 2000 + 500 * c.reductions ≤ c.learned → IsRestart c.conflicts
    → SearchLoses formula (record c { reductions = c.reductions + 1 }) e told_
reduction_begins formula c e told_ (s, ok, are, p, fits) enough restart = (
  s,
  ok,
  are,
  record {
    log = p.log;
    clauses = p.clauses;
    learned = p.learned;
    trail = p.trail;
    units = p.units;
    engine = p.engine;
    reasons = p.reasons;
    counts = record { marked = p.counts.marked; falling = p.counts.falling; many = p.counts.many; few = let f = p.counts.few in omega (arith, f) };
    ids = p.ids;
    levels = p.levels;
  },
  record { before = c.arena; part = λ q h. refl; watched = fits },
  (let f = p.counts.few in let l = at_least s.moment.reduces s.moment.reductions in omega (arith, f, l)),
  reduction_may_begin s.events (record {
    restart = subst IsRestart (sym (ap length ok.log.marks ∙ length-range_with_len 1 s.conflicts ∙ p.counts.marked)) restart;
    many = subst (λ (m : Moment). 2000 + 500 * m.reductions ≤ length m.learned) (moment_is formula s.moment s.events ok.log.fits)
        (let f = p.counts.few in let l = at_least s.moment.reduces s.moment.reductions in let many = p.counts.many in omega (arith, f, l, many, enough));
  }),
)
  where
    at_least : (b : Bool) (k : ℕ) → k ≤ (if b then k + 1 else k)
    at_least true k = omega arith
    at_least false k = omega arith

pub reduction_ends : (formula : Problem) (c : SearchState) (e : State) (told_ : Option (List LogEvent)) (w : WatchState) → SearchLoses formula c e told_ → IsDetached c.arena c.watches w → SearchStands formula (record c { watches = w }) e [] told_
reduction_ends formula c e told_ w (s, ok, are, p, f, fresh, reducing) cut = (
  s,
  ok,
  are,
  record {
    log = p.log;
    clauses = p.clauses;
    learned = p.learned;
    trail = p.trail;
    units = p.units;
    engine = p.engine;
    reasons = p.reasons;
    counts = p.counts;
    ids = p.ids;
    levels = p.levels;
  },
  record { fits = detached_fits c.watches w f.before c.arena c.trail f.part cut f.watched.fits; all = λ r h. cut.kept r (f.watched.all r (subst IsSome (f.part r h) h)) h },
)

-- ---- what is told within a reduction
pub loses_is_left : (formula : Problem) (c : SearchState) (e : State) (told_ : Option (List LogEvent)) → SearchLoses formula c e told_ → IsLeft formula told_
loses_is_left formula c e told_ (s, ok, are, p, f, fresh, reducing) = is_left formula e.parities s told_ ok p.log.served.served are

pub loses_told : {L : Type 0} (m : sink.Ghosts L LogEvent) (old new : SearchLog L) (why : Option CoreFault) → GoesOn m old why new
    → (c d : SearchState) (e : State) (event is : LogEvent) → event ≡ is → m.items new.sink.now ≡ with_events (event ∷ []) (m.items old.sink.now) → d ≡ c → SearchLoses old.formula.now c e (with_events (is ∷ []) (m.items old.sink.now))
    → SearchLoses new.formula.now d e (m.items new.sink.now)
loses_told m old new why on c d e event is same told_ one st =
    subst (λ p. SearchLoses p d e (m.items new.sink.now)) (sym on.formula) (subst (λ x. SearchLoses old.formula.now x e (m.items new.sink.now)) (sym one)
    (subst (SearchLoses old.formula.now c e) (sym (told_ ∙ ap (λ x. with_events (x ∷ []) (m.items old.sink.now)) same)) st))
