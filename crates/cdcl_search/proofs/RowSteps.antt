-- The steps of a row that was told keep the search that fits the code.
use Rattle.std.proofs.Common.{◌≡◌, ◌≢◌, refl, sym, ap, ◌∙◌, subst, ℕ, zero, suc, ◌+◌, ◌-◌, ◌<◌, ◌≤◌, ℤ, Bool, true, false, List, [], ◌∷◌, ◌++◌, length, get_or, map, Option, Some, None, is_some, Contains, arith, inl, inr, length-append}
use Rattle.std.specs.List.{AllByRecursion, cons_option}
use Rattle.std.specs.FinMap as map_
use Rattle.std.specs.FinSet as set
use Rattle.std.proofs.Math.ListN.{get_or-append}
use Rattle.std.proofs.Math.Seq.{get_or-append_seam}
use Rattle.cx_base.specs.Literals.{Literal}
use Rattle.cx_base.specs.Parity.{NormalForm, normal_form, sum_of, HasOneOfEach}
use Rattle.cx_base.specs.Problem.{Problem, parities_of, AreWithin, parity_met, clause_met}
use Rattle.cx_base.specs.declared.constraint.Constraint.{Constraint}
use Rattle.cx_base.specs.declared.constraint.Constraint.TheVariants as constraint
use Rattle.cx_semantics.specs.Chain.{has_literal}
use Rattle.cx_base.specs.declared.steps.LogStep.TheVariants.{ClauseOfParity}
use Rattle.cx_base.specs.declared.steps.LogEvent.{LogEvent}
use Rattle.cx_base.specs.declared.steps.LogEvent.TheVariants.{Step}
use Rattle.cx_base.specs.Integers.{integers_of, literals}
use Rattle.cx_semantics.specs.LogRules.{AreLive}
use Rattle.cx_base.specs.Assumptions.{is_ending}
use Rattle.cx_semantics.specs.Tables.{Table, get, named}
use Rattle.cx_trail.specs.Sequence.{TrailState, IsTrail, IsAssignedIn}
use Rattle.parity_engine.specs.State.{State}
use Rattle.parity_engine.specs.Equations.{parity_number, numbered}
use Rattle.parity_engine.specs.Written.{IsWritten, AreRising}
use Rattle.parity_engine.proofs.Rising.{rising_low}
use Rattle.xor_reason.specs.declared.reason.ReasonOf.{ReasonOf}
use Rattle.xor_reason.proofs.ClauseLaws.{contains_written, has_written}
use Rattle.search_steps.specs.Search.{Search, IsSearchIn, told}
use Rattle.search_steps.specs.LogSteps.{IsAddition, IsRowOf, IsClauseOfRow, IsRowReason, row_events, sum_events, all_told}
use Rattle.search_steps.specs.Holding.{AreTold}
use Rattle.search_steps.specs.Ids.{IsRanged, HasFreeSums}
use Rattle.search_steps.specs.Size.{additions}
use Rattle.search_steps.specs.Trail.{held}
use Rattle.search_steps.proofs.StartLaws.{variables_are_within}
use Rattle.search_steps.proofs.RowReasons.{row_cases, source_keeps, summed_keeps, sum_leaves_none, sum_leaves_no_old}
use Rattle.search_steps.proofs.IdLaws.{row_next_is_free, row_clause_ranged, summed_frees_sum}
use Rattle.search_steps.proofs.EndLaws.{is_log_open}
use Rattle.search_steps.proofs.SizeLaws.{told_adds}
use Rattle.cx_semantics.proofs.Members.{has_at_head, has_behind}
use Rattle.cx_semantics.proofs.Widths.{variable_in}
use Rattle.cdcl_search.specs.declared.state.SearchState.{SearchState}
use Rattle.cdcl_search.specs.Ties.{Ties, SearchStands, IsWatched, HasOnlyRowClauses, AreNumbered, AreRows, first_row_id, row_ids}
use Rattle.cdcl_search.specs.Tells.{IsLeft, IsId, AreTellable, with_events}
use Rattle.cdcl_search.specs.Rows.{AreNextIds}
use Rattle.cdcl_search.specs.declared.rows.RowIds.{RowIds}
use Rattle.cdcl_search.specs.Explaining.{Explains}
use Rattle.cdcl_search.proofs.Events.{no_more, more_and_more}
use Rattle.cdcl_search.proofs.IntegerLaws.{spelt}
use Rattle.cdcl_search.proofs.LowIds.{variables_are_few}
use Rattle.cdcl_search.proofs.StepTexts.{literals_are_proper}
use Rattle.cdcl_search.proofs.Tellables.{row_is_tellable}
use Rattle.cdcl_search.proofs.TableLaws.{put_same, put_other, drop_other, put_answers_below, clauses_stay, units_stay}

-- ---- variables
pub within_by : (n : ℕ) (lits : List Literal) → ((l : Literal) → has_literal lits l ≡ true → (1 ≤ l.variable) × (l.variable ≤ n)) → AreWithin n lits
within_by n [] h = tt
within_by n (l ∷ lits) h = (h l (has_at_head l lits), within_by n lits (λ m k. h m (has_behind l lits m k)))

-- a variable of a list of one literal for each is one of the set
pub in_form : (form : NormalForm) (lits : List Literal) → HasOneOfEach form.variables lits → (l : Literal) → has_literal lits l ≡ true → set.contains form.variables l.variable ≡ true
in_form form lits each l h = ap (λ s. set.contains s l.variable) (sym each.same) ∙ set.contains-from_list_nat (map (λ x. x.variable) lits) l.variable ∙ variable_in lits l h

pub low_form : (form : NormalForm) (lits : List Literal) → IsWritten form lits → (v : ℕ) → set.contains form.variables v ≡ true → 1 ≤ v
low_form form lits w v h = rising_low 1 (map (λ x. x.variable) lits) v w.rises (sym (contains_written form lits w v) ∙ h)

assigned_within : (t : TrailState) (n v : ℕ) → IsTrail t → t.variables ≡ n → IsAssignedIn t.entries v → (1 ≤ v) × (v ≤ n)
assigned_within t n v sound vars (i, less, is) = let low = sound.low i less in let high = sound.high i less in (omega (arith, low, is), omega (arith, high, is, vars))

-- ---- parities under their numbers
module _ (table : Table) (parities : List (List Literal)) (are : AreNumbered table parities) where
  pub named_are : (least : ℕ) (ids : List ℕ) → 1 ≤ least → AreRising least (length parities) ids → named table ids ≡ numbered parities ids
  named_are least [] low r = refl
  named_are least (k ∷ ids) low r =
      let first = r.0 in
      ap (λ o. cons_option o (named table ids)) (are k (omega (arith, low, first)) r.1) ∙ ap (λ xs. parity_number parities k ∷ xs) (named_are (k + 1) ids (omega arith) r.2)

  pub all_live : (least : ℕ) (ids : List ℕ) → 1 ≤ least → AreRising least (length parities) ids → AreLive table ids
  all_live least [] low r = tt
  all_live least (k ∷ ids) low r = let first = r.0 in (ap is_some (are k (omega (arith, low, first)) r.1), all_live (k + 1) ids (omega arith) r.2)

  all_theirs : (least : ℕ) (ids : List ℕ) → 1 ≤ least → AreRising least (length parities) ids → AllByRecursion (Contains parities) (numbered parities ids)
  all_theirs least [] low r = tt
  all_theirs least (k ∷ ids) low r =
      let first = r.0 in
      let high = r.1 in
      let less : k - 1 < length parities = omega (arith, low, first, high) in
      ((k - 1, less, get_any parities (k - 1) less), all_theirs (k + 1) ids (omega arith) r.2)
    where
      get_any : (xs : List (List Literal)) (i : ℕ) → i < length xs → get_or xs i (get_or xs i []) ≡ get_or xs i []
      get_any [] i less = absurd (omega (arith, less))
      get_any (x ∷ xs) zero less = refl
      get_any (x ∷ xs) (suc i) less = get_any xs i (omega (arith, less))

pub few_parities : (constraints : List Constraint) → length (parities_of constraints) ≤ length constraints
unfolding parities_of
few_parities [] = omega arith
few_parities (constraint.Clause lits ∷ cs) = let rec = few_parities cs in omega (arith, rec)
few_parities (constraint.Parity lits ∷ cs) = let rec = few_parities cs in omega (arith, rec)
few_parities (constraint.Assume lits ∷ cs) = let rec = few_parities cs in omega (arith, rec)

-- ---- events
pub all_told_are : (more : List LogEvent) (s : Search) (told_ : Option (List LogEvent)) → AreTold told_ s.events → AreTold (with_events more told_) (all_told s more).events
all_told_are [] s told_ a = subst (λ o. AreTold o s.events) (sym (no_more told_)) a
all_told_are (event ∷ more) s told_ a =
    subst (λ o. AreTold o (all_told s (event ∷ more)).events) (more_and_more (event ∷ []) more told_) (all_told_are more (told s event) (with_events (event ∷ []) told_) (one told_ a))
  where
    one : (o : Option (List LogEvent)) → AreTold o s.events → AreTold (with_events (event ∷ []) o) (s.events ++ event ∷ [])
    one None h = tt
    one (Some es) h = ap (λ xs. xs ++ event ∷ []) h

pub is_left : {tidies : Bool} (formula : Problem) (parities : List (List Literal)) (s : Search) (told_ : Option (List LogEvent)) → IsSearchIn tidies formula parities s → s.moment.awaits ≡ false → AreTold told_ s.events → IsLeft formula told_
is_left formula parities s None ok served a = tt
is_left formula parities s (Some es) ok served a = subst (λ xs. IsLeft formula (Some xs)) (sym a) (inl (is_log_open formula parities s ok served))

-- ---- the variables of a row are the formula's
module _ (formula : Problem) (c : SearchState) (e : State) (rows : List (List Literal)) (s : Search) (t : Ties formula c e rows s) (r : ReasonOf) (x : Explains e.parities c.trail r) where
  form_within : (v : ℕ) → set.contains x.form.variables v ≡ true → (1 ≤ v) × (v ≤ formula.variables)
  form_within v h = assigned_within c.trail formula.variables v t.trail.follows.sound t.trail.variables (x.assigned v (low_form x.form r.parity x.written v h) h)

  pub parity_within : AreWithin formula.variables r.parity
  parity_within = within_by formula.variables r.parity (λ l h. form_within l.variable (has_written x.form r.parity x.written l h))

  pub clause_within : AreWithin formula.variables r.clause
  clause_within = within_by formula.variables r.clause (λ l h. form_within l.variable (in_form x.form r.clause x.one_of_each l h))

-- ---- a row is told
-- the integers of literals of the formula stand for them
spells : (n : ℕ) (lits : List Literal) → AreWithin n lits → literals (integers_of lits) ≡ lits
spells n [] w = refl
spells n (l ∷ lits) w = (λ i. spelt l.variable l.negative w.0.0 i ∷ spells n lits w.1 i)

module _ (formula : Problem) (c : SearchState) (e : State) (rows : List (List Literal)) (s : Search) (ok : IsSearchIn c.tidies formula e.parities s) (t : Ties formula c e rows s) (r : ReasonOf) (x : Explains e.parities c.trail r) where
  abbrev theirs : List (List Literal)
  theirs = e.parities

  abbrev k : ℕ
  k = length formula.constraints + 1

  abbrev n : ℕ
  n = first_row_id c.next + length rows

  abbrev rs : List ℤ
  rs = integers_of r.parity

  abbrev zs : List ℤ
  zs = integers_of r.clause

  abbrev steps : List LogEvent
  steps = row_events k rs r.sources n zs

  high : length theirs < k
  high = let few = t.engine.few in omega (arith, few)

  abbrev within_its : AreWithin formula.variables r.parity × AreWithin formula.variables r.clause
  within_its = (parity_within formula c e rows s t r x, clause_within formula c e rows s t r x)

  back_parity : literals rs ≡ r.parity
  back_parity = spells formula.variables r.parity within_its.0

  back_clause : literals zs ≡ r.clause
  back_clause = spells formula.variables r.clause within_its.1

  names_same : named s.moment.tables.parities r.sources ≡ numbered theirs r.sources
  names_same = named_are s.moment.tables.parities theirs t.log.numbered 1 r.sources (omega arith) x.numbers

  normal : normal_form (literals rs) ≡ x.form
  normal = ap normal_form back_parity ∙ x.written.normal

  row_added : IsAddition formula s.moment.tables.parities k rs
  row_added = record { within = variables_are_within formula.variables r.parity within_its.0; free = t.log.sums k high }

  row_is : IsRowOf theirs s.moment.tables r.sources (literals rs)
  row_is = record {
    live = all_live s.moment.tables.parities theirs t.log.numbered 1 r.sources (omega arith) x.numbers;
    theirs = subst (AllByRecursion (Contains theirs)) (sym names_same) (all_theirs s.moment.tables.parities theirs t.log.numbered 1 r.sources (omega arith) x.numbers);
    sums = normal ∙ x.sums ∙ ap (λ ps. sum_of (map normal_form ps)) (sym names_same);
  }

  clause_added : IsAddition formula s.moment.tables.clauses n zs
  clause_added = record {
    within = variables_are_within formula.variables r.clause within_its.1;
    free = row_next_is_free formula (first_row_id c.next) c.next (first_row_id c.next + length rows) s t.log.ranged (omega arith);
  }

  clause_is : IsClauseOfRow formula.variables (literals rs) (literals zs)
  clause_is = record {
    within = subst (AreWithin formula.variables) (sym back_clause) within_its.1;
    one_of_each = subst (HasOneOfEach (normal_form (literals rs)).variables) (sym back_clause) (subst (λ f. HasOneOfEach f.variables r.clause) (sym normal) x.one_of_each);
    implied = λ values h. ap (clause_met values) back_clause ∙ x.follows values (ap (parity_met values) (sym back_parity) ∙ h);
  }

  module _ (some : is_ending formula.constraints r.clause ≡ false) (room : length rows ≤ formula.variables) where
    reason_is : IsRowReason formula theirs s k rs r.sources n zs
    reason_is = record { high = high; row_step = row_added; row = row_is; clause_step = clause_added; clause = clause_is; goes_on = ap (is_ending formula.constraints) back_clause ∙ some }

    one_longer : length (rows ++ r.clause ∷ []) ≡ suc (length rows)
    one_longer = let long = length-append rows (r.clause ∷ []) in omega (arith, long)

    rows_more : AreRows (map_.insert s.moment.tables.clauses n (literals zs)) (first_row_id c.next) (rows ++ r.clause ∷ [])
    rows_more i less = elim (Rattle.std.proofs.lemmas.Bool.cases_lt i (length rows)) [
      | inl old ↦
          put_other s.moment.tables.clauses n (first_row_id c.next + i) (literals zs) (λ same. omega (arith, same, old)) ∙ t.log.rows_told i old ∙ ap Some (sym (get_or-append rows (r.clause ∷ []) [] i old))
      | inr new ↦
          let long = length-append rows (r.clause ∷ []) in
          let last : i ≡ length rows = omega (arith, long, less, new) in
          ap (λ j. get (map_.insert s.moment.tables.clauses n (literals zs)) (first_row_id c.next + j)) last ∙ put_same s.moment.tables.clauses n (literals zs) ∙ ap Some (back_clause ∙ sym (get_or-append_seam rows r.clause [] []))
          ∙ ap (λ j. Some (get_or (rows ++ r.clause ∷ []) j [])) (sym last)
    ]

    -- the clause is put, under the next id of a row, after these events and with these parities and sums
    module _ (events : List LogEvent) (parities : Table) (new_sums old_sums : List ℕ) where
      abbrev put : Search
      put = record s {
        events = events;
        moment = record s.moment { tables = record { clauses = map_.insert s.moment.tables.clauses n (literals zs); parities = parities }; new_clauses = n ∷ s.moment.new_clauses; new_sums = new_sums; old_sums = old_sums };
      }

      ranged_still : IsRanged formula (first_row_id c.next) c.next (n + 1) s.trail put.moment
      ranged_still =
          let i = row_clause_ranged formula (first_row_id c.next) c.next (first_row_id c.next + length rows) s t.log.ranged n zs k (omega arith) (omega arith) in
          record { originals = i.originals; room = i.room; reasons = i.reasons; learned = i.learned; new_rows = i.new_rows; old_rows = i.old_rows; free = i.free; rows_free = i.rows_free }

      served_still : new_sums ≡ [] → old_sums ≡ [] → HasOnlyRowClauses put (first_row_id c.next) (length (rows ++ r.clause ∷ []))
      served_still no_new no_old = record {
        served = t.log.served.served;
        old_clauses = t.log.served.old_clauses;
        new_clauses = ap (λ ids. n ∷ ids) t.log.served.new_clauses ∙ ap (row_ids (first_row_id c.next)) (sym one_longer);
        old_sums = no_old;
        new_sums = no_new;
      }

      ties_still : AreNumbered parities theirs → HasFreeSums (length theirs) put.moment → new_sums ≡ [] → old_sums ≡ [] → additions events ≤ additions s.events + 2 → Ties formula c e (rows ++ r.clause ∷ []) put
      ties_still numbered free no_new no_old few = record {
        log = record {
          ranged = subst (λ m. IsRanged formula (first_row_id c.next) c.next m s.trail put.moment) (let long = one_longer in omega (arith, long)) ranged_still;
          sums = free;
          numbered = numbered;
          rows_told = rows_more;
          few_rows = let long = one_longer in omega (arith, long, room);
          few_additions = λ plain. let was = t.log.few_additions plain in let long = one_longer in omega (arith, was, long, few);
          none_at_0 = put_other s.moment.tables.clauses n 0 (literals zs) (λ same. omega (arith, same)) ∙ t.log.none_at_0;
          served = served_still no_new no_old;
        };
        clauses = clauses_stay formula s.moment.tables.clauses put.moment.tables.clauses c.next c.arena (held 0 s.trail) (put_answers_below c.next n s.moment.tables.clauses (literals zs) (omega arith)) t.clauses;
        learned = t.learned;
        trail = t.trail;
        units = units_stay s.moment.tables.clauses put.moment.tables.clauses c.next c.trail s.trail c.units.items (put_answers_below c.next n s.moment.tables.clauses (literals zs) (omega arith)) t.units;
        engine = t.engine;
        reasons = t.reasons;
        counts = record { marked = t.counts.marked; falling = t.counts.falling; many = t.counts.many; few = t.counts.few };
        ids = t.ids;
        levels = t.levels;
      }

    -- from one source
    source_ties : (source : ℕ) → Ties formula c e (rows ++ r.clause ∷ []) (told s (Step (ClauseOfParity n zs source)))
    source_ties source = ties_still (s.events ++ Step (ClauseOfParity n zs source) ∷ []) s.moment.tables.parities s.moment.new_sums s.moment.old_sums t.log.numbered t.log.sums t.log.served.new_sums t.log.served.old_sums
        (let one = told_adds s (Step (ClauseOfParity n zs source) ∷ []) in omega (arith, one))

    -- from a sum
    abbrev summed : Search
    summed = all_told s (sum_events k rs r.sources n zs)

    numbered_still : AreNumbered summed.moment.tables.parities theirs
    numbered_still m low few =
        let above = high in
        let other : m ≢ k = λ same. omega (arith, same, few, above) in
        drop_other (map_.insert s.moment.tables.parities k (literals rs)) k m other ∙ put_other s.moment.tables.parities k m (literals rs) other ∙ t.log.numbered m low few

    sum_ties : Ties formula c e (rows ++ r.clause ∷ []) summed
    sum_ties = ties_still summed.events summed.moment.tables.parities summed.moment.new_sums summed.moment.old_sums numbered_still (summed_frees_sum (length theirs) s k rs r.sources n zs t.log.sums)
        (sum_leaves_none s k rs r.sources n zs t.log.served.new_sums) (sum_leaves_no_old s k rs r.sources n zs t.log.served.old_sums)
        (let two = told_adds s (sum_events k rs r.sources n zs) in omega (arith, two))

    pub stands_still : (told_ : Option (List LogEvent)) → AreTold told_ s.events → IsWatched c.watches c.arena c.trail → SearchStands formula c e (rows ++ r.clause ∷ []) (with_events steps told_)
    stands_still told_ a f = row_cases (λ es. SearchStands formula c e (rows ++ r.clause ∷ []) (with_events es told_)) k rs r.sources n zs
        (λ source is. (told s (Step (ClauseOfParity n zs source)), source_keeps formula theirs s k rs r.sources n zs reason_is ok source is, all_told_are (Step (ClauseOfParity n zs source) ∷ []) s told_ a, source_ties source, f))
        (summed, summed_keeps formula theirs s k rs r.sources n zs reason_is ok, all_told_are (sum_events k rs r.sources n zs) s told_ a, sum_ties, f)

-- ---- what a telling leaves
rising_ids : (least few : ℕ) (ids : List ℕ) → 1 ≤ least → few ≤ 2000000000000000000 → AreRising least few ids → AllByRecursion IsId ids
rising_ids least few [] low top r = tt
rising_ids least few (i ∷ ids) low top r =
    let first = r.0 in
    let last = r.1 in
    ((omega (arith, low, first), omega (arith, top, last)), rising_ids (i + 1) few ids (omega arith) top r.2)

pub sources_are_ids : (constraints parities : ℕ) (ids : List ℕ) → parities ≤ constraints → constraints ≤ 4294967295 → AreRising 1 parities ids → AllByRecursion IsId ids
sources_are_ids constraints parities ids few small r = rising_ids 1 parities ids (omega arith) (omega (arith, few, small)) r

module _ (formula : Problem) (c : SearchState) (e : State) (rows : List (List Literal)) (old : Option (List LogEvent)) (st : SearchStands formula c e rows old) where
  pub left_now : IsLeft formula old
  left_now = is_left formula e.parities st.0 old st.1 st.3.log.served.served st.2

  pub sources_are : (r : ReasonOf) → Explains e.parities c.trail r → AllByRecursion IsId r.sources
  sources_are r x = sources_are_ids (length formula.constraints) (length e.parities) r.sources st.3.engine.few st.3.ids.few x.numbers

  module _ (r : ReasonOf) (x : Explains e.parities c.trail r) (some : is_ending formula.constraints r.clause ≡ false) (room : length rows ≤ formula.variables)
      (ids : RowIds) (next : AreNextIds (length formula.constraints) c.next (length rows) ids) where
    abbrev its : List LogEvent
    its = row_events ids.sum (integers_of r.parity) r.sources ids.clause (integers_of r.clause)

    are : its ≡ row_events (length formula.constraints + 1) (integers_of r.parity) r.sources (first_row_id c.next + length rows) (integers_of r.clause)
    are = ap (λ k. row_events k (integers_of r.parity) r.sources ids.clause (integers_of r.clause)) next.sum
        ∙ ap (λ n. row_events (length formula.constraints + 1) (integers_of r.parity) r.sources n (integers_of r.clause)) next.clause

    pub are_tellable : AreTellable formula its
    are_tellable =
        let few = variables_are_few formula c e (first_row_id c.next) rows st.0 st.3 in
        row_is_tellable formula ids.sum (integers_of r.parity) r.sources ids.clause (integers_of r.clause) next.proper.0 next.proper.1 (literals_are_proper formula.variables r.parity few (parity_within formula c e rows st.0 st.3 r x)) (sources_are r x)
        (literals_are_proper formula.variables r.clause few (clause_within formula c e rows st.0 st.3 r x))

    pub stands_then : (new : Option (List LogEvent)) → new ≡ with_events its old → SearchStands formula c e (rows ++ r.clause ∷ []) new
    stands_then new is = subst (SearchStands formula c e (rows ++ r.clause ∷ [])) (sym (is ∙ ap (λ es. with_events es old) are))
        (stands_still formula c e rows st.0 st.1 st.3 r x some room old st.2 st.4)
