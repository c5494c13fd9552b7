-- A row whose clause would end the log ends it with the empty clause at level 0, once the negation of each of its literals has a unit clause.
use Rattle.std.proofs.Common.{◌≡◌, refl, sym, ap, ◌∙◌, subst, ℕ, ◌+◌, ◌<◌, ◌≤◌, ℤ, Bool, true, false, ◌&&◌, List, [], ◌∷◌, ◌++◌, map, length, get_or, is_some, Option, Some, None, arith, inl, inr, true≢false, append_assoc, length-append}
use Rattle.std.specs.List.{AllByRecursion, cons_option}
use Rattle.std.specs.FinMap as map_
use Rattle.std.proofs.lemmas.Bool.{and_from}
use Rattle.std.proofs.lemmas.List.{map-append}
use Rattle.cx_base.specs.Literals.{Literal, negate}
use Rattle.cx_base.specs.Assumptions.{assumes, is_ending}
use Rattle.cx_base.specs.Integers.{integer_of, literal, literals}
use Rattle.cx_base.specs.Parity.{NormalForm, normal_form, sum_of}
use Rattle.cx_base.specs.Problem.{Problem, AreWithin}
use Rattle.cx_base.specs.declared.steps.LogEvent.{LogEvent}
use Rattle.cx_base.specs.declared.steps.LogEvent.TheVariants.{Step}
use Rattle.cx_base.specs.declared.steps.LogStep.TheVariants.{ClauseWithHints}
use Rattle.cx_base.proofs.Elements.{all_append}
use Rattle.cx_base.proofs.LiteralLaws.{negate-negate}
use Rattle.cx_semantics.specs.Chain.{has_literal, negations, chain, right}
use Rattle.cx_semantics.specs.LogRules.{AreLive}
use Rattle.cx_semantics.specs.Tables.{Table, get, named}
use Rattle.cx_semantics.proofs.Closure.{inside_itself}
use Rattle.cx_semantics.proofs.Members.{has_at_head, has_behind}
use Rattle.cx_trail.specs.Sequence.{TrailState, IsTrail}
use Rattle.conflict_learn.specs.declared.learning.Resolved.{Resolved}
use Rattle.conflict_learn.specs.Final.{IsFinal, IsDecidedAt}
use Rattle.conflict_learn.specs.Learning.{Follows, negated_at}
use Rattle.conflict_learn.proofs.ChainOfResolutions.{by_cases}
use Rattle.parity_engine.specs.State.{State}
use Rattle.parity_engine.specs.Equations.{numbered}
use Rattle.xor_reason.specs.declared.reason.ReasonOf.{ReasonOf}
use Rattle.cx_semantics.specs.Marked.{Moment}
use Rattle.search_steps.specs.Hints.{AreHintsFor}
use Rattle.search_steps.specs.Ids.{AreRowIds, IsRanged}
use Rattle.search_steps.specs.LogSteps.{all_told}
use Rattle.search_steps.specs.Search.{Search, IsSearchIn, told}
use Rattle.search_steps.specs.Size.{additions, most_additions}
use Rattle.search_steps.specs.Tied.{IsLiveSet, IsLiveOr}
use Rattle.search_steps.specs.Trail.{Entry}
use Rattle.search_steps.proofs.Bridge.{level_tied}
use Rattle.search_steps.proofs.IdLaws.{row_next_is_free}
use Rattle.search_steps.proofs.BesideUnits.{beside_unit_keeps}
use Rattle.search_steps.proofs.SizeLaws.{told_adds}
use Rattle.search_steps.proofs.StartLaws.{literals_are, variables_are_within}
use Rattle.cdcl_search.specs.declared.state.SearchState.{SearchState}
use Rattle.cdcl_search.specs.Explaining.{Explains}
use Rattle.cdcl_search.specs.Tells.{as_events, with_events}
use Rattle.cdcl_search.specs.Ties.{SearchStands, first_row_id}
use Rattle.cdcl_search.proofs.EndingClauses.{ending_assumes}
use Rattle.cdcl_search.proofs.Events.{more_and_more}
use Rattle.cdcl_search.proofs.RowSteps.{all_told_are, clause_within}
use Rattle.cdcl_search.proofs.TableLaws.{no_clause, put_same, put_other}
use Rattle.cdcl_core.specs.Concluding.{EndsLog, IsEndedWith}
use Rattle.cdcl_core.specs.Shortening.{ArePartedInto, IsToldUnit, EndsByUnits, late_unit_events, late_units_from, short_row_events}
use Rattle.cdcl_core.specs.declared.conflicts.LogEnd.{LogEnd}
use Rattle.cdcl_core.specs.declared.shortening.UnitClause.{UnitClause}
use Rattle.cdcl_core.proofs.AgainstLaws.{both_assumed_clash}
use Rattle.cdcl_core.proofs.FewAdditions.{ties_add_few, late_units_add, parts_are_all}
use Rattle.cdcl_core.proofs.LateSteps.{late_count}
use Rattle.cdcl_core.proofs.ShortForms.{alone, left_is_sum}
use Rattle.cdcl_core.proofs.ShortLaws.{IsUnitIn, IsReadyToEnd, IsLeftOfRow, ready_to_end, few_by, clause_normal, told_unit, left_inside, left_all, left_fails, left_is_unmet, left_ends}

-- ---- nothing is left at level 0
none_decided : (t : TrailState) → IsTrail t → t.level ≡ 0 → (places : List ℕ) → AllByRecursion (λ p. p < length t.entries) places → AllByRecursion (IsDecidedAt t) places → negated_at t places ≡ []
none_decided t ok level [] w d = refl
none_decided t ok level (p ∷ places) w d = let above = d.0.0 in let top = ok.levels p w.0 in absurd (omega (arith, above, top, level))

pub follows_nothing : (t : TrailState) → IsTrail t → t.level ≡ 0 → (clause : List Literal) (holds : List Literal → ℕ → Type 0) (resolved : List Resolved) (lits : List Literal) → IsFinal t (length t.entries) None clause holds resolved lits → Follows t clause holds resolved []
follows_nothing t ok level clause holds resolved lits f = subst (Follows t clause holds resolved) (f.are ∙ none_decided t ok level f.places f.within f.decided) f.follows

-- ---- unit clauses of literals that have none yet
-- the clause has the literal, and its negation contradicts no assumed one
pub record IsLate (formula : Problem) (clause : List Literal) (l : Literal) : Type 0 where
  pub within : (1 ≤ l.variable) × (l.variable ≤ formula.variables)
  pub apart : assumes formula.constraints l ≡ false
  pub has : has_literal clause l ≡ true

-- their unit clauses were told, under the ids from the first one on
pub record AreLateTold (tidies : Bool) (formula : Problem) (parities : List (List Literal)) (old new : Search) (n : ℕ) (units : List UnitClause) : Type 0 where
  pub search : IsSearchIn tidies formula parities new
  pub parities_same : new.moment.tables.parities ≡ old.moment.tables.parities
  pub low : (m : ℕ) → m < n → get new.moment.tables.clauses m ≡ get old.moment.tables.clauses m
  pub units_in : AllByRecursion (IsUnitIn formula.variables new.moment.tables.clauses) units
  pub free : (m : ℕ) → n + length units ≤ m → get new.moment.tables.clauses m ≡ None
  pub served : new.moment.awaits ≡ false
  pub conflicts : new.conflicts ≡ old.conflicts

still_live : (table : Table) (n : ℕ) (lits : List Literal) → get table n ≡ None → (c : List Literal) → IsLiveSet table c → IsLiveSet (map_.insert table n lits) c
still_live table n lits none c (clause, (m, live), same) = (clause, (m, put_other table n m lits (λ is. no_clause clause (sym live ∙ ap (get table) is ∙ none)) ∙ live), same)

all_still : (table : Table) (n : ℕ) (lits clause : List Literal) → get table n ≡ None → (ds : List (List Literal)) → AllByRecursion (IsLiveOr table clause) ds → AllByRecursion (IsLiveOr (map_.insert table n lits) clause) ds
all_still table n lits clause none [] h = tt
all_still table n lits clause none (d ∷ ds) (inl (live, plain), h) = (inl (still_live table n lits none d live, plain), all_still table n lits clause none ds h)
all_still table n lits clause none (d ∷ ds) (inr is, h) = (inr is, all_still table n lits clause none ds h)

-- hints that are right stay so
ids_still : (table : Table) (n : ℕ) (lits : List Literal) → get table n ≡ None → (ids : List ℕ) → AreLive table ids → AreLive (map_.insert table n lits) ids × (named (map_.insert table n lits) ids ≡ named table ids)
ids_still table n lits none [] h = (tt, refl)
ids_still table n lits none (m ∷ ids) h =
    let same : get (map_.insert table n lits) m ≡ get table m = put_other table n m lits (λ is. true≢false (sym h.0 ∙ ap is_some (ap (get table) is ∙ none))) in
    let rest = ids_still table n lits none ids h.1 in
    ((ap is_some same ∙ h.0, rest.0), (λ i. cons_option (same i) (rest.1 i)))

hints_still : (table : Table) (n : ℕ) (lits : List Literal) → get table n ≡ None → (target : List Literal) (hints : List ℤ) → AreHintsFor table target hints → AreHintsFor (map_.insert table n lits) target hints
hints_still table n lits none target hints h =
    let r = ids_still table n lits none h.ids h.live in
    record { ids = h.ids; are = h.are; live = r.0; chain = ap (chain (negations target)) r.1 ∙ h.chain }

-- the hints are right for the unit clause of each negation of a literal of the clause
abbrev pub AreHintsBeside : Table → List Literal → List ℤ → Type 0
AreHintsBeside table clause hints = (m : Literal) → has_literal clause (negate m) ≡ true → AreHintsFor table (m ∷ []) hints

module _ (tidies : Bool) (formula : Problem) (parities : List (List Literal)) (hints : List ℤ) (clause : List Literal) (clauses : List (List Literal)) (serves : (assumed : List Literal) → chain assumed clauses ≡ right) where
  module _ (l : Literal) (n : ℕ) (s : Search) (is : IsLate formula clause l) (free : (m : ℕ) → n ≤ m → get s.moment.tables.clauses m ≡ None) where
    abbrev z : ℤ
    z = integer_of (negate l)

    within : AreWithin formula.variables (negate l ∷ [])
    within = (is.within, tt)

    back : literals (z ∷ []) ≡ negate l ∷ []
    back = literals_are formula.variables (negate l ∷ []) within

    one : literal z ≡ negate l
    one = ap (λ ls. get_or ls 0 l) back

    abbrev after : Search
    after = told s (Step (ClauseWithHints n (z ∷ []) hints))

    late_next : IsSearchIn tidies formula parities s → s.quiet_levels ≡ 0 → AllByRecursion (IsLiveOr s.moment.tables.clauses clause) clauses → AreHintsBeside s.moment.tables.clauses clause hints → s.moment.awaits ≡ false → IsSearchIn tidies formula parities after
    late_next ok level are hinted served =
        let has : has_literal clause (negate (literal z)) ≡ true = ap (λ x. has_literal clause (negate x)) one ∙ ap (has_literal clause) (negate-negate l) ∙ is.has in
        beside_unit_keeps formula parities s ok level n z hints (record { within = variables_are_within formula.variables (negate l ∷ []) within; free = free n (omega arith) })
        (hinted (literal z) has)
        (ap (λ x. assumes formula.constraints (negate x) && true) one ∙ ap (λ x. assumes formula.constraints x && true) (negate-negate l) ∙ ap (λ b. b && true) is.apart)
        served clause clauses are serves has

    late_more : (lits : List Literal) → AreLateTold tidies formula parities after (all_told after (late_unit_events hints (late_units_from (n + 1) lits))) (n + 1) (late_units_from (n + 1) lits)
        → AreLateTold tidies formula parities s (all_told s (late_unit_events hints (late_units_from n (l ∷ lits)))) n (late_units_from n (l ∷ lits))
    late_more lits rest = record {
      search = rest.search;
      parities_same = rest.parities_same;
      low = λ m less. rest.low m (omega (arith, less)) ∙ put_other s.moment.tables.clauses n m (literals (z ∷ [])) (λ same. omega (arith, same, less));
      units_in = (
        record {
          within = within;
          live = record {
            clause = negate l ∷ [];
            live = rest.low n (omega arith) ∙ put_same s.moment.tables.clauses n (literals (z ∷ [])) ∙ ap Some back;
            same = and_from _ _ (inside_itself (negate l ∷ [])) (inside_itself (negate l ∷ []));
          };
        },
        rest.units_in,
      );
      free = λ m high. rest.free m (omega (arith, high));
      served = rest.served;
      conflicts = rest.conflicts;
    }

  pub late_told : (lits : List Literal) (n : ℕ) (s : Search) → IsSearchIn tidies formula parities s → s.quiet_levels ≡ 0 → AllByRecursion (IsLiveOr s.moment.tables.clauses clause) clauses → AreHintsBeside s.moment.tables.clauses clause hints
      → ((m : ℕ) → n ≤ m → get s.moment.tables.clauses m ≡ None) → s.moment.awaits ≡ false
      → AllByRecursion (IsLate formula clause) lits → AreLateTold tidies formula parities s (all_told s (late_unit_events hints (late_units_from n lits))) n (late_units_from n lits)
  late_told [] n s ok level live hinted free served are = record {
    search = ok;
    parities_same = refl;
    low = λ m less. refl;
    units_in = tt;
    free = λ m high. free m (omega (arith, high));
    served = served;
    conflicts = refl;
  }
  late_told (l ∷ lits) n s ok level live hinted free served are = late_more l n s are.0 free lits
      (late_told lits (n + 1) (told s (Step (ClauseWithHints n (integer_of (negate l) ∷ []) hints))) (late_next l n s are.0 free ok level live hinted served) level
      (all_still s.moment.tables.clauses n (literals (integer_of (negate l) ∷ [])) clause (free n (omega arith)) clauses live)
      (λ m has. hints_still s.moment.tables.clauses n (literals (integer_of (negate l) ∷ [])) (free n (omega arith)) (m ∷ []) hints (hinted m has))
      (λ m high. put_other s.moment.tables.clauses n m (literals (integer_of (negate l) ∷ [])) (λ same. omega (arith, same, high)) ∙ free m (omega (arith, high))) refl are.1)

-- ---- ids after those of rows are free
rows_up : (bound now up : ℕ) (ids : List ℕ) → now ≤ up → AreRowIds bound now ids → AreRowIds bound up ids
rows_up bound now up [] h a = tt
rows_up bound now up (n ∷ ids) h a = ((a.0.0, let low = a.0.1 in omega (arith, low, h)), rows_up bound now up ids h a.1)

ranged_up : (formula : Problem) (bound next now up : ℕ) (es : List Entry) (m : Moment) → now ≤ up → IsRanged formula bound next now es m → IsRanged formula bound next up es m
ranged_up formula bound next now up es m h r = record {
  originals = r.originals;
  room = r.room;
  reasons = r.reasons;
  learned = r.learned;
  new_rows = rows_up bound now up m.new_clauses h r.new_rows;
  old_rows = rows_up bound now up m.old_clauses h r.old_rows;
  free = r.free;
  rows_free = r.rows_free;
}

-- ---- the whole row
late_parts : (lits : List Literal) (n : ℕ) → ArePartedInto lits [] (late_units_from n lits)
late_parts [] n = (refl, refl)
late_parts (l ∷ lits) n = inr (record { literal = negate l; id = n }, late_units_from (n + 1) lits, refl, sym (negate-negate l), late_parts lits (n + 1))

module _ (formula : Problem) (c : SearchState) (e : State) (rows : List (List Literal)) (told_ : Option (List LogEvent)) (st : SearchStands formula c e rows told_) (r : ReasonOf) (x : Explains e.parities c.trail r)
    (ends : is_ending formula.constraints r.clause ≡ true) (level : c.trail.level ≡ 0)
    (clauses : List (List Literal)) (live : AllByRecursion (IsLiveOr st.0.moment.tables.clauses r.clause) clauses) (serves : (assumed : List Literal) → chain assumed clauses ≡ right)
    (hints : List ℤ) (hinted : AreHintsBeside st.0.moment.tables.clauses r.clause hints) (n : LogEnd) (by : EndsByUnits c (length formula.constraints) (length rows) r hints n) where
  abbrev s : Search
  s = st.0

  abbrev first : ℕ
  first = first_row_id c.next + length rows

  abbrev left : List Literal
  left = by.short.left

  abbrev units : List UnitClause
  units = by.short.units.items

  abbrev late : List UnitClause
  late = late_units_from first left

  abbrev k : ℕ
  k = length formula.constraints + 1

  abbrev s1 : Search
  s1 = all_told s (late_unit_events hints late)

  is_late : (l : Literal) → has_literal r.clause l ≡ true → (1 ≤ l.variable) × (l.variable ≤ formula.variables) → IsLate formula r.clause l
  is_late l has within = record {
    within = within;
    apart = by_cases (assumes formula.constraints l)
        (λ h. absurd (true≢false (sym (both_assumed_clash formula.constraints l h (ending_assumes formula.constraints r.clause ends l has)) ∙ st.1.log.apart)))
        (λ h. h);
    has = has;
  }

  are_late : (lits : List Literal) → ((l : Literal) → has_literal lits l ≡ true → has_literal r.clause l ≡ true) → AreWithin formula.variables lits → AllByRecursion (IsLate formula r.clause) lits
  are_late [] h w = tt
  are_late (l ∷ lits) h w = (is_late l (h l (has_at_head l lits)) w.0, are_late lits (λ m g. h m (has_behind l lits m g)) w.1)

  left_within : AreWithin formula.variables left
  left_within = left_all (λ l. (1 ≤ l.variable) × (l.variable ≤ formula.variables)) r.clause left units by.shortened.parts (clause_within formula c e rows s st.3 r x)

  told_late : AreLateTold c.tidies formula e.parities s s1 first late
  told_late = late_told c.tidies formula e.parities hints r.clause clauses serves left first s st.1 (st.3.levels ∙ level_tied s.trail c.trail st.3.trail.follows.tied st.3.trail.follows.sound ∙ level) live hinted
      (λ m high. row_next_is_free formula (first_row_id c.next) c.next m s (ranged_up formula (first_row_id c.next) c.next first m s.trail s.moment high st.3.log.ranged) (omega (arith, high)))
      st.3.log.served.served (are_late left (left_inside r.clause left units by.shortened.parts) left_within)

  count : length late ≡ length left
  count = late_count first left

  told_still : (us : List UnitClause) → AllByRecursion (IsToldUnit c) us → AllByRecursion (IsUnitIn formula.variables s1.moment.tables.clauses) us
  told_still [] a = tt
  told_still (u ∷ us) a =
      let was = told_unit formula c e rows s st.3 u a.0 in
      let low = st.3.units.low a.0.0 a.0.1 in
      let same = a.0.3 in (
        record { within = was.within; live = record { clause = was.live.clause; live = told_late.low u.id (omega (arith, low, same)) ∙ was.live.live; same = was.live.same } },
        told_still us a.1,
      )

  all_units : AllByRecursion (IsUnitIn formula.variables s1.moment.tables.clauses) (units ++ late)
  all_units = all_append _ units late (told_still units by.shortened.told) told_late.units_in

  ready : IsReadyToEnd c.tidies formula e.parities c.conflicts k (first + length left) s1
  ready =
      let before = ready_to_end formula c e rows s st.1 st.3 in
      record {
        search = told_late.search;
        below = before.below;
        numbered = λ m low few. ap (λ (table : Table). get table m) told_late.parities_same ∙ before.numbered m low few;
        sums = λ m high. ap (λ (table : Table). get table m) told_late.parities_same ∙ before.sums m high;
        free = told_late.free (first + length left) (omega (arith, count));
        served = told_late.served;
        marked = told_late.conflicts ∙ before.marked;
      }

  abbrev fs : List NormalForm
  fs = map normal_form (numbered e.parities r.sources)

  of_row : IsLeftOfRow formula e.parities r.sources (units ++ late) []
  of_row = record {
    numbers = x.numbers;
    within = tt;
    distinct = tt;
    sums = left_is_sum left [] late (late_parts left first) (fs ++ map normal_form (map alone units))
        (left_is_sum r.clause left units by.shortened.parts fs (clause_normal formula c e rows s st.1 st.3 r x))
        ∙ ap sum_of (append_assoc fs (map normal_form (map alone units)) (map normal_form (map alone late))
        ∙ ap (λ gs. fs ++ gs) (sym (map-append normal_form (map alone units) (map alone late)) ∙ ap (map normal_form) (sym (map-append alone units late))));
    ends = refl;
  }

  few_then : c.tidies ≡ false → additions s1.events + length (units ++ late) + 2 ≤ most_additions formula c.conflicts
  few_then plain =
      let few = ties_add_few formula c e rows s st.3 plain in
      let parts = parts_are_all r.clause left units by.shortened.parts in
      let width = few_by formula c e rows s st.1 st.3 r x in
      let join = told_adds s (late_unit_events hints late) in
      let more = late_units_add hints late in
      let long = count in
      let both = length-append units late in
      omega (arith, few, parts, width, join, more, long, both)

  pub refuted_none : n.failed ≡ []
  refuted_none = by.ends.failed ∙ ap negations by.nothing

  pub refuted_ends : EndsLog formula c told_ n.failed n.steps.items
  refuted_ends = subst (λ failed. EndsLog formula c told_ failed n.steps.items) (sym refuted_none) (record {
    texts = by.ends.steps.texts;
    unmet = left_is_unmet formula e.parities c.conflicts k (first + length left) s1 ready r.sources (units ++ late) [] of_row all_units;
    fails = left_fails formula e.parities c.conflicts k (first + length left) s1 ready r.sources (units ++ late) [] of_row all_units;
    apart = st.1.log.apart;
    log = subst (λ xs. IsEndedWith c.tidies formula c.conflicts [] (with_events xs told_)) (sym steps_are)
        (subst (IsEndedWith c.tidies formula c.conflicts []) (more_and_more (late_unit_events hints late) (short_row_events k r.sources (units ++ late) [] (first + length left)) told_)
        (left_ends formula e.parities c.conflicts k (first + length left) s1 ready r.sources (units ++ late) [] of_row all_units few_then (with_events (late_unit_events hints late) told_) (all_told_are (late_unit_events hints late) s told_ st.2)));
  })
    where
      steps_are : as_events n.steps.items ≡ late_unit_events hints late ++ short_row_events k r.sources (units ++ late) [] (first + length left)
      steps_are = by.ends.steps.are ∙ (λ i. late_unit_events hints late ++ short_row_events k r.sources (by.units i) (by.nothing i) (first + length left))
