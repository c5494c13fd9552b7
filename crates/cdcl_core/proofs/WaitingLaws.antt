-- Unit clauses of the formula come onto the trail, one after another, and what holds when none waits.
use Rattle.std.proofs.Common.{◌≡◌, ◌≢◌, refl, sym, ap, ◌∙◌, subst, ℕ, zero, suc, ◌+◌, ◌-◌, ◌<◌, ◌≤◌, nat_lt, true, cond, List, [], ◌∷◌, ◌++◌, length, drop, drop-cons, get_or, Option, Some, None, ◌⊎◌, inl, inr, arith, length-append, true≢false, append-nil}
use Rattle.std.proofs.lemmas.Bool.{le-leb, ltb-true, ltb-false, and_parts}
use Rattle.std.proofs.lemmas.List.{length-replicate, length_push, get_or_default}
use Rattle.std.proofs.Math.ListN.{get_or-append}
use Rattle.std.proofs.Math.Seq.{get_or-append_seam}
use Rattle.std.specs.List.{All, AllByRecursion}
use Rattle.std.specs.Prelude.{if◌then◌else◌}
use Rattle.std.specs.Global.{Vec}
use Rattle.std.proofs.lemmas.Option.{same_Some}
use Rattle.cx_base.specs.Literals.{Literal, negate, same_literal, HasTwo}
use Rattle.cx_base.specs.Problem.{Problem, clauses_of, IsWithinVariables}
use Rattle.cx_base.specs.declared.steps.LogEvent.{LogEvent}
use Rattle.cx_semantics.specs.Chain.{has_literal, is_inside, same_literals}
use Rattle.cx_semantics.specs.Tables.{Table, get}
use Rattle.cx_base.proofs.LiteralLaws.{same_literal-itself}
use Rattle.cx_semantics.proofs.Closure.{has_by_inside}
use Rattle.cx_semantics.proofs.Members.{has_at_head, has_split}
use Rattle.cx_trail.specs.declared.entry.Entry.{Entry as TrailEntry}
use Rattle.cx_trail.specs.declared.entry.Reason.{Reason}
use Rattle.cx_trail.specs.Sequence.{TrailState, IsTrail, IsTrueIn, IsFalseIn, IsOpenIn, StandsAt, entry_at, pushed}
use Rattle.parity_engine.specs.declared.state.Mood.TheVariants.{Busy, Broken}
use Rattle.parity_engine.specs.State.{State, fresh}
use Rattle.cx_semantics.specs.Settled.{IsClauseOf}
use Rattle.clause_arena.specs.Clauses.{literals_at, id_at}
use Rattle.search_steps.specs.Engine.{HoldsValues}
use Rattle.cx_semantics.specs.Ids.{highest_id}
use Rattle.search_steps.specs.Ids.{IsRanged, ReasonsBelow, AreRowIds}
use Rattle.tidy_rules.proofs.OneLaws.{not_two}
use Rattle.search_steps.specs.Quiet.{HasTrue}
use Rattle.search_steps.specs.Search.{Search, IsSearchIn, forced_on}
use Rattle.search_steps.specs.Size.{additions}
use Rattle.search_steps.specs.Tied.{IsTied, ForcesOn}
use Rattle.search_steps.specs.Trail.{Entry, by_clause, held, level_of}
use Rattle.search_steps.proofs.Bridge.{entry_last, entry_before, to_held, level_tied}
use Rattle.search_steps.proofs.CodeSteps.{clause_step_keeps}
use Rattle.search_steps.proofs.EngineLaws.{fresh_holds}
use Rattle.search_steps.proofs.IdLaws.{force_ranged, next_is_free}
use Rattle.conflict_learn.proofs.ChainOfResolutions.{by_cases}
use Rattle.search_steps.proofs.Sets.{not_both}
use Rattle.cdcl_search.specs.declared.state.SearchState.{SearchState}
use Rattle.cdcl_core.proofs.TidyBefore.{none_before}
use Rattle.cdcl_search.specs.Ties.{AreTidyBefore, SearchStands, LogTies, ClauseTies, IsHeld, NeedsNoLearned, AreUnits, RestOnUnits, IsFallingFrom, IsFed, IsNamedBy, first_row_id}
use Rattle.cdcl_search.proofs.Growing.{held_grows, watched_grows, stand_grows}
use Rattle.cdcl_search.proofs.UnitHints.{unit_hints_are_right}
use Rattle.cdcl_search.proofs.UnitTies.{on_last}
use Rattle.search_steps.specs.Laws.{HaveTheirs}
use Rattle.cdcl_search.proofs.Places.{tied_length}
use Rattle.cdcl_search.proofs.TableLaws.{no_clause}
use Rattle.cdcl_search.specs.Tells.{IsId}
use Rattle.cdcl_search.proofs.LowIds.{units_are_ids}
use Rattle.cdcl_core.specs.declared.filling.Single.{Single}
use Rattle.cdcl_core.specs.Filling.{IsFilled, clause_number}
use Rattle.cdcl_core.specs.Given.{HasGiven, AreEngines}
use Rattle.cdcl_core.specs.Waiting.{TiesBut, SearchStandsBut, IsWaiting, IsSingle}
use Rattle.cdcl_core.proofs.EndingLaws.{no_newer}
use Rattle.cdcl_core.proofs.OriginalLaws.{few_clauses}
use Rattle.cdcl_core.specs.Concluding.{IsRefutable}

-- ---- a clause of one literal
only_one : (lits : List Literal) (l m : Literal) → same_literals (l ∷ []) lits ≡ true → has_literal lits m ≡ true → m ≡ l
only_one lits l m same has = elim (has_split l [] m (has_by_inside lits (l ∷ []) m (and_parts (is_inside (l ∷ []) lits) (is_inside lits (l ∷ [])) same).1 has)) [
  | inl is ↦ is
  | inr none ↦ absurd (true≢false (sym none))
]

pub has_the_one : (lits : List Literal) (l : Literal) → same_literals (l ∷ []) lits ≡ true → has_literal lits l ≡ true
has_the_one lits l same = has_by_inside (l ∷ []) lits l (and_parts (is_inside (l ∷ []) lits) (is_inside lits (l ∷ [])) same).0 (has_at_head l [])

pub one_forces : (entries : List TrailEntry) (lits : List Literal) (l : Literal) → same_literals (l ∷ []) lits ≡ true → ForcesOn entries lits l
one_forces entries lits l same = record {
  has_it = has_the_one lits l same;
  others_false = λ m has apart. not_both (same_literal l m) (ap (same_literal l) (only_one lits l m same has) ∙ same_literal-itself l) apart;
}

-- the next one, or one of the others
still_waits : (u : Single) (more : List Single) (k : ℕ) → IsWaiting (u ∷ more) k → (k ≡ u.number) ⊎ IsWaiting more k
still_waits u more k (v, (zero, less, is), number) = inl (sym number ∙ ap (λ x. x.number) (sym is))
still_waits u more k (v, (suc i, less, is), number) = inr (v, (i, omega (arith, less), is), number)

-- ---- the units of a longer trail
module _ (table : Table) (t : TrailState) (es : List Entry) (ids : List ℕ) (next : ℕ) (u : AreUnits table next t es ids) (every : length ids ≡ length t.entries) (level : ℕ) (low : level ≡ 0) (l : Literal) (why : Reason) (n : ℕ) where
  abbrev new : TrailEntry
  new = record { literal = l; level = level; reason = why }

  abbrev grown : List TrailEntry
  grown = t.entries ++ new ∷ []

  places : (P : TrailEntry → ℕ → Type 0) → ((i : ℕ) → i < length ids → P (entry_at t.entries i) (get_or ids i 0)) → P new n → (i : ℕ) → i < length (ids ++ n ∷ []) → P (entry_at grown i) (get_or (ids ++ n ∷ []) i 0)
  places P old last i less = by_cases (nat_lt i (length ids))
      (λ q.
      let small = ltb-true i (length ids) q in
      subst (λ x. P x (get_or (ids ++ n ∷ []) i 0)) (sym (entry_before t.entries new i (omega (arith, small, every))))
      (subst (P (entry_at t.entries i)) (sym (get_or-append ids (n ∷ []) 0 i small)) (old i small)))
      (λ q.
      let far = ltb-false i (length ids) q in
      let long = length-append ids (n ∷ []) in
      let at : i ≡ length ids = omega (arith, far, less, long) in
      subst (λ x. P x (get_or (ids ++ n ∷ []) i 0)) (sym (ap (entry_at grown) (at ∙ every) ∙ entry_last t.entries new))
      (subst (P new) (sym (ap (λ j. get_or (ids ++ n ∷ []) j 0) at ∙ get_or-append_seam ids n [] 0)) last))

  no_more_above : 0 < level → ⊥
  no_more_above high = omega (arith, high, low)

  pub one_more_unit : (y : Entry) → y.why ≡ by_clause n → RestOnUnits ids es → length es ≡ length t.entries → IsNamedBy table (l ∷ []) n → n < next → AreUnits table next (pushed t level l why) (y ∷ es) (ids ++ n ∷ [])
  one_more_unit y rests rest tied named small = record {
    few = let a = length-append ids (n ∷ []) in let b = length_push t.entries new in omega (arith, a, b, every);
    level_0 = places (λ x _. x.level ≡ 0) u.level_0 low;
    named = places (λ x i. IsNamedBy table (x.literal ∷ []) i) u.named named;
    low = places (λ _ i. i < next) u.low small;
    newer = [];
    older = y ∷ es;
    parts = refl;
    count = let a = length-append ids (n ∷ []) in omega (arith, a, every, tied);
    rest = on_last ids n y es rests rest;
    all = λ high i far less. absurd (no_more_above high);
  }

busy : Busy ≡ Broken → ⊥
busy q = cc

-- what the code holds with other units and another trail
abbrev pub with_single : SearchState → Vec ℕ → TrailState → SearchState
with_single c units trail = record c { trail = trail; units = units }

pub next_waits : (formula : Problem) (engines : List (List Literal)) (c : SearchState) (units : List Single) (place : ℕ) (u : Single) (told : Option (List LogEvent)) → place < length units → u ≡ get_or units place u → SearchStandsBut formula engines c (drop place units) told → SearchStandsBut formula engines c (u ∷ drop (place + 1) units) told
next_waits formula engines c units place u told less is st = subst (λ us. SearchStandsBut formula engines c us told) (drop-cons units place u less ∙ ap (λ j. get_or units place u ∷ drop j units) (let e : suc place ≡ place + 1 = omega arith in e) ∙ ap (λ x. x ∷ drop (place + 1) units) (sym is)) st

pub none_left : (units : List Single) (place : ℕ) → length units ≤ place → drop place units ≡ []
none_left [] zero far = refl
none_left [] (suc place) far = refl
none_left (u ∷ units) zero far = absurd (omega (arith, far))
none_left (u ∷ units) (suc place) far = none_left units place (omega (arith, far))

-- ---- the next unit clause
module _ (formula : Problem) (engines : List (List Literal)) (c : SearchState) (u : Single) (more : List Single) (old : Option (List LogEvent)) (st : SearchStandsBut formula engines c (u ∷ more) old) where
  abbrev search : Search
  search = st.0

  abbrev ties : TiesBut formula engines c (u ∷ more) search
  ties = st.3

  abbrev single : IsSingle formula u
  single = ties.singles.0

  abbrev clause : List Literal
  clause = clause_number formula u.number

  live : get search.moment.tables.clauses u.number ≡ Some clause
  live = ties.clauses.numbered u.number single.0.low single.0.high

  small : u.number < c.next
  small = let high = single.0.high in let next = ties.next in omega (arith, high, next)

  -- its number, and the ids of the units so far, are such as a step may have
  pub waiting_is_id : IsId u.number
  waiting_is_id = let low = single.0.low in let high = small in let room = ties.room in (omega (arith, low), omega (arith, high, room))

  pub waiting_units_are_ids : All IsId c.units.items
  waiting_units_are_ids = units_are_ids search.moment.tables.clauses c.next c.trail search.trail c.units.items ties.clauses.none_before ties.room ties.units

  long : length search.trail ≡ length c.trail.entries
  long = tied_length search.trail c.trail.entries ties.follows.tied

  rest : RestOnUnits c.units.items search.trail
  rest = subst (RestOnUnits c.units.items) (no_newer ties.units.newer ties.units.older search.trail ties.units.parts
      (let a = long in let count = ties.units.count in let every = ties.every in omega (arith, a, count, every))) ties.units.rest

  -- it has no other literal
  alone : ¬ HasTwo clause
  alone = not_two u.literal clause single.0.same

  -- its literal is true already
  true_covers : IsTrueIn c.trail.entries u.literal → HasTrue (held 0 search.trail) clause
  true_covers (i, (less, at)) = record {
    l = u.literal;
    has_it = has_the_one clause u.literal single.0.same;
    is_held = ap (has_literal (held 0 search.trail)) (sym at)
        ∙ to_held 0 search.trail c.trail.entries ties.follows.tied i less (let low = ties.follows.sound.levels i less in let level = ties.level in omega (arith, low, level));
  }

  pub true_is_put : IsTrueIn c.trail.entries u.literal → SearchStandsBut formula engines c more old
  true_is_put h = (
    search,
    st.1,
    st.2,
    record {
      follows = ties.follows;
      variables = ties.variables;
      level = ties.level;
      ranged = ties.ranged;
      next = ties.next;
      room = ties.room;
      sums = ties.sums;
      parities = ties.parities;
      clauses = ties.clauses;
      stored = ties.stored;
      plain = ties.plain;
      apart = ties.apart;
      covered = λ k low high. elim (ties.covered k low high) [
        | inl done ↦ inl done
        | inr waits ↦ elim (still_waits u more k waits) [
          | inl is ↦ inl (inr (inr (subst (λ j. (¬ HasTwo (clause_number formula j)) × HasTrue (held 0 search.trail) (clause_number formula j)) (sym is) (alone, true_covers h))))
          | inr later ↦ inr later
        ]
      ];
      singles = ties.singles.1;
      units = ties.units;
      every = ties.every;
      watched = ties.watched;
      stand = ties.stand;
      phases = ties.phases;
      given = ties.given;
      conflicts = ties.conflicts;
      none_learned = ties.none_learned;
      not_reduced = ties.not_reduced;
      none_tidy = ties.none_tidy;
      no_conflict = ties.no_conflict;
      no_learned = ties.no_learned;
      no_reduction = ties.no_reduction;
      no_level = ties.no_level;
      few_additions = ties.few_additions;
      served = ties.served;
    },
  )

  -- its literal is false
  pub false_is_refutable : IsFalseIn c.trail.entries u.literal → IsRefutable formula c (u.literal ∷ []) u.number old
  false_is_refutable h = λ hints are. (
    (let next = ties.next in omega (arith, next), let room = ties.room in omega (arith, room)),
    (
      search,
      st.2,
      record {
        parities = engines;
        search = st.1;
        hinted = unit_hints_are_right search.moment.tables.clauses c.next c search.trail ties.units (u.literal ∷ []) u.number hints (record { clause = clause; live = live; same = single.0.same }) are []
            (λ m has. elim (has_split u.literal [] m has) [
              | inl e ↦ inr (h.0, (let less = h.1.0 in let every = ties.every in omega (arith, less, every)), subst (λ x. StandsAt c.trail.entries (negate x) h.0) (sym e) h.1)
              | inr none ↦ absurd (true≢false (sym none))
            ]);
        free = next_is_free formula (first_row_id c.next) c.next (first_row_id c.next) search ties.ranged (omega arith);
        served = ties.served.served;
        conflicts = ties.no_conflict ∙ sym ties.conflicts;
        few_additions = λ _. let told = ties.few_additions in let all = few_clauses formula.constraints in omega (arith, told, all);
      },
    ),
  )

  -- its literal is put on the trail
  module _ (is_open : IsOpenIn c.trail.entries u.literal.variable) (why : Reason) where
    abbrev entry : Entry
    entry = record { literal = u.literal; level = level_of search.trail; why = by_clause u.number }

    abbrev after : Search
    after = forced_on search u.literal (by_clause u.number)

    keeps : IsSearchIn c.tidies formula engines after × IsTied after.trail (pushed c.trail c.trail.level u.literal why).entries
    keeps = clause_step_keeps formula engines search st.1 c.trail ties.follows u.literal why is_open u.number clause (let none = ties.no_level in omega (arith, none)) live (one_forces c.trail.entries clause u.literal single.0.same)

    head_covers : HasTrue (held 0 after.trail) clause
    head_covers = record {
      l = u.literal;
      has_it = has_the_one clause u.literal single.0.same;
      is_held = ap (λ b. has_literal (cond b (u.literal ∷ held 0 search.trail) (held 0 search.trail)) u.literal)
          (le-leb (level_of search.trail) 0 (let at = level_tied search.trail c.trail ties.follows.tied ties.follows.sound in let level = ties.level in omega (arith, at, level)))
          ∙ has_at_head u.literal (held 0 search.trail);
    }

    units_then : AreUnits search.moment.tables.clauses c.next (pushed c.trail c.trail.level u.literal why) after.trail (c.units.items ++ u.number ∷ [])
    units_then = one_more_unit search.moment.tables.clauses c.trail search.trail c.units.items c.next ties.units ties.every c.trail.level ties.level u.literal why u.number entry refl rest long
        (record { clause = clause; live = live; same = single.0.same }) small

    module _ (units : Vec ℕ) (grown : units.items ≡ c.units.items ++ u.number ∷ []) where
      pushed_is_put : IsTrail (pushed c.trail c.trail.level u.literal why) → SearchStandsBut formula engines (with_single c units (pushed c.trail c.trail.level u.literal why)) more old
      pushed_is_put sound = (
        after,
        keeps.0,
        st.2,
        record {
          follows = record { tied = keeps.1; sound = sound };
          variables = ties.variables;
          level = ties.level;
          ranged = force_ranged formula (first_row_id c.next) c.next (first_row_id c.next) search ties.ranged u.literal u.number (let low = small in omega (arith, low));
          next = ties.next;
          room = ties.room;
          sums = ties.sums;
          parities = ties.parities;
          clauses = ties.clauses;
          stored = ties.stored;
          plain = ties.plain;
          apart = ties.apart;
          covered = λ k low high. elim (ties.covered k low high) [
            | inl done ↦ inl (held_grows c.tidies c.arena k search.trail entry (clause_number formula k) done)
            | inr waits ↦ elim (still_waits u more k waits) [
              | inl is ↦ inl (inr (inr (subst (λ j. (¬ HasTwo (clause_number formula j)) × HasTrue (held 0 after.trail) (clause_number formula j)) (sym is) (alone, head_covers))))
              | inr later ↦ inr later
            ]
          ];
          singles = ties.singles.1;
          units = subst (AreUnits search.moment.tables.clauses c.next (pushed c.trail c.trail.level u.literal why) after.trail) (sym grown) units_then;
          every = let a = ap length grown in let b = length-append c.units.items (u.number ∷ []) in
              let l = length_push c.trail.entries (record { literal = u.literal; level = c.trail.level; reason = why }) in let every = ties.every in omega (arith, a, b, l, every);
          watched = watched_grows c c.trail.level u.literal why (omega arith) ties.watched;
          stand = stand_grows c c.trail.level u.literal why c.order ties.stand;
          phases = ties.phases;
          given = ties.given;
          conflicts = ties.conflicts;
          none_learned = ties.none_learned;
          not_reduced = ties.not_reduced;
          none_tidy = ties.none_tidy;
          no_conflict = ties.no_conflict;
          no_learned = ties.no_learned;
          no_reduction = ties.no_reduction;
          no_level = ties.no_level;
          few_additions = ties.few_additions;
          served = record { served = ties.served.served; old_clauses = ties.served.old_clauses; new_clauses = ties.served.new_clauses; old_sums = ties.served.old_sums; new_sums = ties.served.new_sums };
        },
      )

      pub open_is_put : (trail : TrailState) → trail ≡ pushed c.trail c.trail.level u.literal why → IsTrail trail → SearchStandsBut formula engines (with_single c units trail) more old
      open_is_put trail is sound = subst (λ t. SearchStandsBut formula engines (with_single c units t) more old) (sym is) (pushed_is_put (subst IsTrail is sound))

-- ---- before the first unit clause
pub no_ids : (ids : List ℕ) → ids ≡ [] → All IsId ids
no_ids ids none k d less = absurd (let long = ap length none in omega (arith, long, less))

pub empty_is_id : (formula : Problem) → length formula.constraints ≤ 4294967295 → (c : SearchState) (units : List Single) (number : ℕ) → IsFilled formula c units (Some number) → IsId number
empty_is_id formula few c units number f =
    let low = f.empty_is.0 in
    let high = f.empty_is.1 in
    let all = few_clauses formula.constraints in
    (omega (arith, low), omega (arith, high, all, few))

module _ (formula : Problem) (few : length formula.constraints ≤ 4294967295) (known : IsWithinVariables formula.variables formula.constraints) (engines : List (List Literal)) (short : length engines ≤ length formula.constraints) (told : Option (List LogEvent)) (b : HasGiven formula engines told) (c : SearchState) (units : List Single) where
  given_adds_few : additions b.0.events ≤ length (clauses_of formula.constraints) + length formula.constraints
  given_adds_few = let told = b.1.few_additions in omega (arith, told, short)

  room_then : length (clauses_of formula.constraints) + 1 ≤ highest_id
  room_then = let a = few_clauses formula.constraints in omega (arith, a, few)

  empty_is_sound : (t : TrailState) → t ≡ record { variables = formula.variables; level = 0; entries = [] } → IsTrail t
  empty_is_sound t is = subst IsTrail (sym is) (record {
    few = known.0;
    short = omega arith;
    distinct = λ i j less more same. absurd (omega (arith, less));
    low = λ i less. absurd (omega (arith, less));
    high = λ i less. absurd (omega (arith, less));
    levels = λ i less. absurd (omega (arith, less));
    rising = λ i j up less. absurd (omega (arith, less));
    deep = omega arith;
    newest = refl;
    opens = λ i j less more above decision. absurd (omega (arith, more));
    decided = λ k low high. absurd (omega (arith, low, high));
  })

  no_unit : (table : Table) (next : ℕ) (t : TrailState) (es : List Entry) (ids : List ℕ) → es ≡ [] → ids ≡ [] → t.level ≡ 0 → AreUnits table next t es ids
  no_unit table next t es ids none no_id level = record {
    few = let l = ap length no_id in omega (arith, l);
    level_0 = λ i less. absurd (let l = ap length no_id in omega (arith, l, less));
    named = λ i less. absurd (let l = ap length no_id in omega (arith, l, less));
    low = λ i less. absurd (let l = ap length no_id in omega (arith, l, less));
    newer = [];
    older = [];
    parts = none;
    count = sym (ap length no_id);
    rest = tt;
    all = λ high i far less. absurd (omega (arith, high, level));
  }

  given_is_ranged : IsRanged formula (first_row_id (length (clauses_of formula.constraints) + 1)) (length (clauses_of formula.constraints) + 1) (first_row_id (length (clauses_of formula.constraints) + 1)) b.0.trail b.0.moment
  given_is_ranged = record {
    originals = omega arith;
    room = omega arith;
    reasons = subst (ReasonsBelow (first_row_id (length (clauses_of formula.constraints) + 1))) (sym b.1.no_trail) tt;
    learned = subst (AllByRecursion (λ n. n < first_row_id (length (clauses_of formula.constraints) + 1))) (sym b.1.no_learned) tt;
    new_rows = subst (AreRowIds (first_row_id (length (clauses_of formula.constraints) + 1)) (first_row_id (length (clauses_of formula.constraints) + 1))) (sym b.1.tidy.no_new_clauses) tt;
    old_rows = subst (AreRowIds (first_row_id (length (clauses_of formula.constraints) + 1)) (first_row_id (length (clauses_of formula.constraints) + 1))) (sym b.1.tidy.no_old_clauses) tt;
    free = λ n h k. b.1.no_more n (omega (arith, h));
    rows_free = λ n h k l. b.1.no_more n (omega (arith, h));
  }

  pub filled_stands : IsFilled formula c units None → SearchStandsBut formula engines c units told
  filled_stands f = (
    b.0,
    b.1.search c.tidies,
    b.2,
    record {
      follows = record { tied = subst (λ es. IsTied es c.trail.entries) (sym b.1.no_trail) (ap (λ t. t.entries) f.trail); sound = empty_is_sound c.trail f.trail };
      variables = ap (λ t. t.variables) f.trail;
      level = ap (λ t. t.level) f.trail;
      ranged = subst (λ n. IsRanged formula (first_row_id n) n (first_row_id n) b.0.trail b.0.moment) (sym f.next) given_is_ranged;
      next = f.next;
      room = let r = room_then in let next = f.next in omega (arith, r, next);
      sums = b.1.sums;
      parities = b.1.listed;
      clauses = b.1.clauses;
      stored = f.stored;
      plain = λ _. f.plain;
      apart = f.apart;
      covered = λ k low high. elim (f.covered k low high) [
        | inl stored ↦ inl (inl stored)
        | inr (inl both) ↦ inl (inr (inl (f.never_tidies, both)))
        | inr (inr (inl waits)) ↦ inr waits
        | inr (inr (inr none)) ↦ absurd (true≢false (sym none))
      ];
      singles = f.units_are;
      units = no_unit b.0.moment.tables.clauses c.next c.trail b.0.trail c.units.items b.1.no_trail f.no_units (ap (λ t. t.level) f.trail);
      every = ap length f.no_units ∙ sym (ap (λ t. length t.entries) f.trail);
      watched = f.watched;
      stand = f.stand;
      phases = f.phases;
      given = f.given;
      conflicts = f.conflicts;
      none_learned = f.none_learned;
      not_reduced = f.not_reduced;
      none_tidy = f.none_tidy;
      no_conflict = b.1.no_conflict;
      no_learned = b.1.no_learned;
      no_reduction = ap (λ r. if r then b.0.moment.reductions + 1 else b.0.moment.reductions) b.1.not_reducing ∙ b.1.no_reduction;
      no_level = b.1.no_level;
      few_additions = given_adds_few;
      served = record { served = b.1.tidy.served; old_clauses = b.1.tidy.no_old_clauses; new_clauses = b.1.tidy.no_new_clauses; old_sums = b.1.tidy.no_old_sums; new_sums = b.1.tidy.no_new_sums };
    },
  )

  -- a clause without literals
  pub empty_is_refutable : (number : ℕ) → IsFilled formula c units (Some number) → IsRefutable formula c [] number told
  empty_is_refutable number f = λ hints are. (
    (let next = f.next in omega (arith, next), let r = room_then in let next = f.next in omega (arith, next, r)),
    (
      b.0,
      b.2,
      record {
        parities = engines;
        search = b.1.search c.tidies;
        hinted = unit_hints_are_right b.0.moment.tables.clauses c.next c b.0.trail (no_unit b.0.moment.tables.clauses c.next c.trail b.0.trail c.units.items b.1.no_trail f.no_units (ap (λ t. t.level) f.trail)) [] number hints
            (record { clause = []; live = b.1.clauses.numbered number f.empty_is.0 f.empty_is.1 ∙ ap Some f.empty_is.2; same = refl }) are [] (λ m has. absurd (true≢false (sym has)));
        free = ap (get b.0.moment.tables.clauses) f.next ∙ b.1.no_more (length (clauses_of formula.constraints) + 1) (omega arith);
        served = b.1.tidy.served;
        conflicts = b.1.no_conflict ∙ sym f.conflicts;
        few_additions = λ _. let told = given_adds_few in let all = few_clauses formula.constraints in omega (arith, told, all);
      },
    ),
  )

-- ---- after the last unit clause
module _ (formula : Problem) (engines : List (List Literal)) (c : SearchState) (told : Option (List LogEvent)) (st : SearchStandsBut formula engines c [] told) where
  none_waits : (k : ℕ) → IsWaiting [] k → ⊥
  none_waits k (u, (i, less, is), number) = omega (arith, less)

  is_number : (n : ℕ) (clause : List Literal) → get st.0.moment.tables.clauses n ≡ Some clause → n < c.next → (1 ≤ n) × (n ≤ length (clauses_of formula.constraints))
  is_number zero clause live low = absurd (no_clause clause (sym live ∙ st.3.clauses.none_before))
  is_number (suc n) clause live low = (
    omega arith,
    (let next = st.3.next in omega (arith, low, next)),
  )

  needs_of : (k : ℕ) → IsHeld c.tidies c.arena (held 0 st.0.trail) k (clause_number formula k) → NeedsNoLearned c.arena (held 0 st.0.trail) (clause_number formula k)
  needs_of k (inl (r, live, id)) =
      let s = st.3.stored r live in
      inr (inr (
        r,
        live,
        s.original,
        ap (λ j. is_inside (literals_at c.arena r) (clause_number formula j)) (sym id)
            ∙ (and_parts (is_inside (literals_at c.arena r) (clause_number formula (id_at c.arena r))) (is_inside (clause_number formula (id_at c.arena r)) (literals_at c.arena r)) s.same).0,
      ))
  needs_of k (inr (inl both)) = inl both.1
  needs_of k (inr (inr (one, t))) = inr (inl t)

  original_then : (clause : List Literal) → IsClauseOf formula clause → NeedsNoLearned c.arena (held 0 st.0.trail) clause
  original_then clause (i, low, is) =
      let k : (i + 1) - 1 ≡ i = omega arith in
      let number : clause_number formula (i + 1) ≡ clause = ap (λ j. get_or (clauses_of formula.constraints) j []) k ∙ get_or_default (clauses_of formula.constraints) i [] clause low ∙ is in
      subst (NeedsNoLearned c.arena (held 0 st.0.trail)) number (elim (st.3.covered (i + 1) (omega arith) (omega (arith, low))) [
        | inl done ↦ needs_of (i + 1) done
        | inr waits ↦ absurd (none_waits (i + 1) waits)
      ])

  clauses_then : ClauseTies c.tidies formula st.0.moment.tables.clauses c.next c.arena c.tidy_below (held 0 st.0.trail)
  clauses_then = record {
    stored = λ r live.
        let s = st.3.stored r live in
        record {
          wide = s.wide;
          named = record { clause = clause_number formula (id_at c.arena r); live = st.3.clauses.numbered (id_at c.arena r) s.low s.high; same = s.same };
          low = let high = s.high in let next = st.3.next in omega (arith, high, next);
          late = λ learned. absurd (true≢false (sym learned ∙ s.original));
        };
    covered = λ n clause low live.
        let number = is_number n clause live low in
        subst (IsHeld c.tidies c.arena (held 0 st.0.trail) n) (same_Some (clause_number formula n) clause (sym (st.3.clauses.numbered n number.0 number.1) ∙ live)) (elim (st.3.covered n number.0 number.1) [
          | inl done ↦ done
          | inr waits ↦ absurd (none_waits n waits)
        ]);
    apart = st.3.apart;
    original = original_then;
    old = subst (AreTidyBefore c.arena) (sym st.3.none_tidy) (none_before c.arena);
  }

  all_low : (es : List Entry) (entries : List TrailEntry) → IsTied es entries → ((i : ℕ) → i < length entries → (entry_at entries i).level ≤ 0) → AllByRecursion (λ (e : Entry). e.level ≡ 0) es
  all_low [] entries t low = tt
  all_low (e ∷ es) entries (before, x, same, lit, lev, t) low =
      let l = length_push before x in
      let q = ap length same in (
        (let at = low (length before) (omega (arith, l, q)) in
            let is : (entry_at entries (length before)).level ≡ e.level = ap (λ xs. (entry_at xs (length before)).level) same ∙ ap (λ y. y.level) (entry_last before x) ∙ lev in
            omega (arith, at, is)),
        all_low es before t (λ i less.
            let at = low i (omega (arith, less, l, q)) in
            let is : (entry_at entries i).level ≡ (entry_at before i).level = ap (λ xs. (entry_at xs i).level) same ∙ ap (λ y. y.level) (entry_before before x i less) in
            omega (arith, at, is)),
      )

  level_is : level_of st.0.trail ≡ 0
  level_is = level_tied st.0.trail c.trail st.3.follows.tied st.3.follows.sound ∙ st.3.level

  module _ (e : State) (rows : ℕ) (made : e ≡ fresh formula.variables engines rows) where
    fed_then : IsFed st.0.trail c.given e
    fed_then = record {
      newer = st.0.trail;
      older = [];
      parts = sym (append-nil st.0.trail);
      count = sym st.3.given;
      now = subst (λ k. AllByRecursion (λ (x : Entry). x.level ≡ k) st.0.trail) (sym (ap (λ x. x.level) made))
          (all_low st.0.trail c.trail.entries st.3.follows.tied (λ i less. let low = st.3.follows.sound.levels i less in let level = st.3.level in omega (arith, low, level)));
      values = subst (λ x. HoldsValues [] x.values) (sym made) (fresh_holds formula.variables engines rows);
      level = ap (λ x. x.level) made ∙ sym level_is;
    }

    theirs : e.parities ≡ engines
    theirs = ap (λ x. x.parities) made

    pub begun_stands : length formula.constraints ≤ 4294967295 → AreEngines formula engines → SearchStands formula c e [] told
    begun_stands few are = (
      st.0,
      subst (λ ps. IsSearchIn c.tidies formula ps st.0) (sym theirs) st.1,
      st.2,
      record {
        log = subst (λ ps. LogTies c.tidies formula ps c.next (first_row_id c.next) [] st.0) (sym theirs) (record {
          ranged = subst (λ r. IsRanged formula (first_row_id c.next) c.next r st.0.trail st.0.moment) (let z : first_row_id c.next ≡ first_row_id c.next + 0 = omega arith in z) st.3.ranged;
          sums = st.3.sums;
          numbered = st.3.parities.numbered;
          rows_told = λ i less. absurd (omega (arith, less));
          few_rows = omega arith;
          few_additions = λ _. let told = st.3.few_additions in let next = st.3.next in omega (arith, told, next);
          none_at_0 = st.3.clauses.none_before;
          served = st.3.served;
        });
        clauses = clauses_then;
        learned = λ r live learned. absurd (true≢false (sym learned ∙ (st.3.stored r live).original));
        trail = record { follows = st.3.follows; variables = st.3.variables; stand = st.3.stand; phased = st.3.phases };
        units = st.3.units;
        engine = record {
          vars = ap (λ x. x.vars) made;
          wide = subst (λ x. length x.values ≡ x.vars) (sym made) (length-replicate formula.variables None);
          theirs = subst (HaveTheirs formula) (sym theirs) are.theirs;
          few = subst (λ ps. length ps ≤ length formula.constraints) (sym theirs) are.few;
          fed = fed_then;
        };
        reasons = λ i far less. absurd (let every = st.3.every in omega (arith, far, less, every));
        counts = record {
          marked = st.3.no_conflict ∙ sym st.3.conflicts;
          falling = subst (IsFallingFrom c.next) (sym st.3.no_learned) tt;
          many = let none = st.3.none_learned in omega (arith, none);
          few = let none = st.3.no_reduction in omega (arith, none);
        };
        ids = record {
          taken = let next = st.3.next in let all = few_clauses formula.constraints in omega (arith, next, all);
          counted = let none = st.3.conflicts in omega (arith, none);
          few = few;
        };
        levels = st.3.no_level ∙ sym level_is;
      },
      st.3.watched,
    )

    pub begun_is_calm : e.mood ≢ Broken
    begun_is_calm broken = busy (sym (ap (λ x. x.mood) made) ∙ broken)
