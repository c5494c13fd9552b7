-- The unit clause of a literal of level 0 is told: the ties of the search after that.
use Rattle.std.proofs.Common.{◌≡◌, ◌≢◌, ◌≤◌, refl, sym, ap, ◌∙◌, subst, ℕ, suc, ◌+◌, ◌-◌, ◌<◌, ℤ, true, false, ◌&&◌, nat_eq, nat_lt, List, [], ◌∷◌, ◌++◌, length, take, get_or, Option, Some, ◌⊎◌, inl, inr, arith, length-append, append_assoc, Bool}
use Rattle.std.proofs.lemmas.Bool.{eqb-false, ltb-true, ltb-false}
use Rattle.std.proofs.lemmas.List.{take_all, take-append-le}
use Rattle.std.proofs.Math.ListN.{get_or-append}
use Rattle.std.proofs.Math.Seq.{get_or-append_seam}
use Rattle.std.specs.FinMap as map_
use Rattle.std.specs.List.{AllByRecursion}
use Rattle.std.specs.Prelude.{if◌then◌else◌}
use Rattle.std.specs.Global.{Vec}
use Rattle.cx_base.specs.Literals.{Literal, negate}
use Rattle.cx_base.specs.Assumptions.{assumes, is_ending}
use Rattle.cx_base.specs.Problem.{Problem, AreWithin}
use Rattle.cx_base.proofs.Elements.{same_head, same_tail}
use Rattle.cx_base.specs.declared.steps.LogStep.TheVariants.{ClauseWithHints}
use Rattle.cx_base.specs.declared.steps.LogEvent.TheVariants.{Step}
use Rattle.cx_semantics.specs.Chain.{has_literal, same_literals}
use Rattle.cx_semantics.specs.Fresh.{IsLive}
use Rattle.cx_base.specs.Integers.{integer_of, literal, literals, integers_of}
use Rattle.cx_semantics.specs.Tables.{Table, get}
use Rattle.cx_semantics.proofs.Members.{has_at_head}
use Rattle.cx_trail.specs.declared.entry.Entry.{Entry as TrailEntry}
use Rattle.clause_arena.specs.Clauses.{ArenaState}
use Rattle.cx_trail.specs.Sequence.{TrailState, entry_at}
use Rattle.cx_trail.proofs.ValueLaws.{entry_kept}
use Rattle.parity_engine.specs.declared.state.Held.{Held}
use Rattle.parity_engine.specs.State.{State}
use Rattle.search_steps.specs.Engine.{HoldsValues}
use Rattle.search_steps.specs.Hints.{AreHintsFor}
use Rattle.search_steps.specs.Ids.{IsRanged}
use Rattle.search_steps.specs.Size.{HasFewAdditions, additions}
use Rattle.search_steps.specs.LogSteps.{IsAddition, RestOnClauses, unit_told}
use Rattle.search_steps.specs.Search.{Search, IsSearchIn, told}
use Rattle.search_steps.specs.Tied.{IsTied, ForcesOn}
use Rattle.search_steps.specs.Trail.{Entry, rests_on, by_clause, held, all_held, level_of}
use Rattle.search_steps.proofs.Bridge.{to_held}
use Rattle.search_steps.proofs.CodeSteps.{forces_by}
use Rattle.search_steps.proofs.IdLaws.{next_is_free, clause_ranged, rest_ranged}
use Rattle.search_steps.proofs.SizeLaws.{additions_join}
use Rattle.conflict_learn.proofs.ChainOfResolutions.{by_cases}
use Rattle.search_steps.proofs.StartLaws.{variables_are_within}
use Rattle.search_steps.proofs.UnitLaws.{held_same, level_same}
use Rattle.search_steps.proofs.UnitSteps.{unit_rests_keeps}
use Rattle.tidy_rules.proofs.OneLaws.{not_two}
use Rattle.cdcl_search.specs.declared.state.SearchState.{SearchState}
use Rattle.cdcl_search.specs.Ties.{Ties, TiesFrom, IsNamedBy, IsHeld, NeedsNoLearned, ClauseTies, AreLearned, AreRows, AreUnits, RestOnUnits, IsFallingFrom, IsFed, HaveReasons, first_row_id, row_ids}
use Rattle.cdcl_search.proofs.Places.{tied_length, older_level}
use Rattle.cdcl_search.proofs.TableLaws.{put_same, put_other, no_clause}

-- ---- an entry that rests on its unit clause
tied_rests : (newer older : List Entry) (e : Entry) (n : ℕ) (entries : List TrailEntry) → IsTied (newer ++ e ∷ older) entries → IsTied (newer ++ rests_on e n ∷ older) entries
tied_rests [] older e n entries (before, i, same, lit, lev, t) = (before, i, same, lit, lev, t)
tied_rests (x ∷ newer) older e n entries (before, i, same, lit, lev, t) = (before, i, same, lit, lev, tied_rests newer older e n before t)

length_rests : (newer older : List Entry) (e : Entry) (n : ℕ) → length (newer ++ rests_on e n ∷ older) ≡ length (newer ++ e ∷ older)
length_rests [] older e n = refl
length_rests (x ∷ newer) older e n = ap suc (length_rests newer older e n)

-- a trail in two parts, the older one as before
record IsSplit (level : ℕ) (es before : List Entry) : Type 0 where
  pub newer : List Entry
  pub older : List Entry
  pub parts : es ≡ newer ++ older
  pub count : length older ≡ length before
  pub now : AllByRecursion (λ x. x.level ≡ level) newer
  pub still : (k : ℕ) → held k older ≡ held k before

split_rests : (level : ℕ) (top low newer older : List Entry) (e : Entry) (n : ℕ) → top ++ low ≡ newer ++ e ∷ older → AllByRecursion (λ x. x.level ≡ level) top → IsSplit level (newer ++ rests_on e n ∷ older) low
split_rests level [] low newer older e n is a = record {
  newer = [];
  older = newer ++ rests_on e n ∷ older;
  parts = refl;
  count = length_rests newer older e n ∙ sym (ap length is);
  now = tt;
  still = λ k. held_same k newer older e n ∙ ap (held k) (sym is);
}
split_rests level (x ∷ top) low [] older e n is a = record {
  newer = rests_on e n ∷ top;
  older = low;
  parts = ap (λ es. rests_on e n ∷ es) (sym (same_tail x e (top ++ low) older is));
  count = refl;
  now = (ap (λ y. y.level) (sym (same_head x e (top ++ low) older is)) ∙ a.0, a.1);
  still = λ k. refl;
}
split_rests level (x ∷ top) low (y ∷ newer) older e n is a =
    let r = split_rests level top low newer older e n (same_tail x y (top ++ low) (newer ++ e ∷ older) is) a.1 in
    record {
      newer = y ∷ r.newer;
      older = r.older;
      parts = ap (λ es. y ∷ es) r.parts;
      count = r.count;
      now = (ap (λ z. z.level) (sym (same_head x y (top ++ low) (newer ++ e ∷ older) is)) ∙ a.0, r.now);
      still = r.still;
    }

values_still : (before now : List Entry) (values : List (Option Held)) → ((k : ℕ) → held k now ≡ held k before) → HoldsValues before values → HoldsValues now values
values_still before now values same h = record {
  from_trail = λ k l has. h.from_trail k l (ap (λ ls. has_literal ls l) (sym (same k)) ∙ has);
  to_trail = λ l x has. ap (λ ls. has_literal ls l) (same x.level) ∙ h.to_trail l x has;
}

-- ---- the oldest entries, and the first places of the code's trail
pub tied_front : (newer older : List Entry) (entries : List TrailEntry) → IsTied (newer ++ older) entries → IsTied older (take (length older) entries)
tied_front [] older entries t = subst (IsTied older) (sym (take_all (length older) entries (let same = tied_length older entries t in omega (arith, same)))) t
tied_front (x ∷ newer) older entries (before, i, same, lit, lev, t) =
    let long = tied_length (newer ++ older) before t in
    let both = length-append newer older in
    subst (IsTied older) (sym (ap (take (length older)) same ∙ take-append-le (length older) before (i ∷ []) (omega (arith, long, both)))) (tied_front newer older before t)

pub older_literal : (newer older : List Entry) (e : Entry) (entries : List TrailEntry) → IsTied (newer ++ e ∷ older) entries → e.literal ≡ (entry_at entries (length older)).literal
older_literal [] older e entries (before, i, same, lit, lev, t) =
    sym lit ∙ sym (ap (λ x. x.literal) (ap (λ xs. entry_at xs (length older)) same ∙ ap (entry_at (before ++ i ∷ [])) (tied_length older before t) ∙ Rattle.search_steps.proofs.Bridge.entry_last before i))
older_literal (x ∷ newer) older e entries (before, i, same, lit, lev, t) =
    let l = tied_length (newer ++ e ∷ older) before t in
    let n = length-append newer (e ∷ older) in
    older_literal newer older e before t
    ∙ sym (ap (λ x. x.literal) (ap (λ xs. entry_at xs (length older)) same ∙ entry_kept before (i ∷ []) (length older) (omega (arith, l, n))))

last_part : (xs : List Entry) → 0 < length xs → (front : List Entry) × (x : Entry) × (xs ≡ front ++ x ∷ [])
last_part [] h = absurd (omega (arith, h))
last_part (x ∷ []) h = ([], x, refl)
last_part (x ∷ y ∷ xs) h = let r = last_part (y ∷ xs) (omega arith) in (x ∷ r.0, r.1, ap (λ es. x ∷ es) r.2)

-- entries that rest on unit clauses rest on clauses
pub on_clauses : (ids : List ℕ) (es : List Entry) → RestOnUnits ids es → RestOnClauses es
on_clauses ids [] r = tt
on_clauses ids (e ∷ es) ((i, less, is), r) = ((get_or ids i 0, is), on_clauses ids es r)

-- and go on to do so with an id more
pub on_more : (ids : List ℕ) (n : ℕ) (es : List Entry) → RestOnUnits ids es → RestOnUnits (ids ++ n ∷ []) es
on_more ids n [] r = tt
on_more ids n (e ∷ es) ((i, less, is), r) = ((i, let long = length-append ids (n ∷ []) in omega (arith, less, long), is ∙ ap by_clause (sym (get_or-append ids (n ∷ []) 0 i less))), on_more ids n es r)

-- the newest rests on the last id
pub on_last : (ids : List ℕ) (n : ℕ) (e : Entry) (es : List Entry) → e.why ≡ by_clause n → RestOnUnits ids es → RestOnUnits (ids ++ n ∷ []) (e ∷ es)
on_last ids n e es is r = ((length ids, let long = length-append ids (n ∷ []) in omega (arith, long), is ∙ ap by_clause (sym (get_or-append_seam ids n [] 0))), on_more ids n es r)

-- the entry of the first literal without a unit clause, between the newer ones and those that rest on unit clauses
pub record IsNext (es : List Entry) (ids : List ℕ) (few : ℕ) : Type 0 where
  pub newer : List Entry
  pub entry : Entry
  pub older : List Entry
  pub parts : es ≡ newer ++ entry ∷ older
  pub count : length older ≡ few
  pub rest : RestOnUnits ids older

pub next_of : (table : Table) (next : ℕ) (t : TrailState) (es : List Entry) (ids : List ℕ) → AreUnits table next t es ids → length ids < length es → IsNext es ids (length ids)
next_of table next t es ids u more =
    let long = ap length u.parts in
    let both = length-append u.newer u.older in
    let count = u.count in
    let r = last_part u.newer (omega (arith, long, both, count, more)) in
    record {
      newer = r.0;
      entry = r.1;
      older = u.older;
      parts = u.parts ∙ ap (λ xs. xs ++ u.older) r.2 ∙ append_assoc r.0 (r.1 ∷ []) u.older;
      count = u.count;
      rest = u.rest;
    }

-- ---- numbers that fall
pub falls_lower : (low top : ℕ) (ns : List ℕ) → low ≤ top → IsFallingFrom low ns → IsFallingFrom top ns
falls_lower low top [] l f = tt
falls_lower low top (x ∷ ns) l f = let first = f.0 in (omega (arith, first, l), f.1)

-- ---- what the code holds then
abbrev pub with_unit : SearchState → Vec ℕ → ℕ → SearchState
with_unit c units next = record c { units = units; next = next }

held_still : (tidies : Bool) (arena : ArenaState) (n : ℕ) (es now : List Entry) (clause : List Literal) → held 0 now ≡ held 0 es → IsHeld tidies arena (held 0 es) n clause → IsHeld tidies arena (held 0 now) n clause
held_still tidies arena n es now clause same h = subst (λ ls. IsHeld tidies arena ls n clause) (sym same) h

module _ (formula : Problem) (c : SearchState) (e : State) (rows : List (List Literal)) (s : Search) (ok : IsSearchIn c.tidies formula e.parities s) (t : Ties formula c e rows s)
    (l : Literal) (more : length c.units.items < length c.trail.entries) (here : (entry_at c.trail.entries (length c.units.items)).literal ≡ l) where
  abbrev pub next_in : IsNext s.trail c.units.items (length c.units.items)
  next_in = next_of s.moment.tables.clauses c.next c.trail s.trail c.units.items t.units (let long = tied_length s.trail c.trail.entries t.trail.follows.tied in omega (arith, long, more))

  pub l_within : AreWithin formula.variables (l ∷ [])
  l_within =
      let low = t.trail.follows.sound.low (length c.units.items) more in
      let high = t.trail.follows.sound.high (length c.units.items) more in
      let same = ap (λ m. m.variable) here in
      let vars = t.trail.variables in
      ((omega (arith, low, same), omega (arith, high, same, vars)), tt)

  abbrev pub after_unit : List ℤ → Search
  after_unit hints = unit_told s c.next (integer_of l) hints next_in.newer next_in.entry next_in.older

module _ (formula : Problem) (c : SearchState) (e : State) (rows : List (List Literal)) (s : Search) (ok : IsSearchIn c.tidies formula e.parities s) (t : Ties formula c e rows s)
    (l : Literal) (more : length c.units.items < length c.trail.entries) (here : (entry_at c.trail.entries (length c.units.items)).literal ≡ l) (level : c.trail.level ≡ 0)
    (clause : List Literal) (live : IsLive s.moment.tables.clauses clause) (forces : ForcesOn (take (length c.units.items) c.trail.entries) clause l)
    (back : literals (integers_of (l ∷ [])) ≡ l ∷ []) (hints : List ℤ) where
  abbrev n : ℕ
  n = c.next

  abbrev z : ℤ
  z = integer_of l

  abbrev p : IsNext s.trail c.units.items (length c.units.items)
  p = next_in formula c e rows s ok t l more here

  abbrev after : Search
  after = after_unit formula c e rows s ok t l more here hints

  tied : IsTied (p.newer ++ p.entry ∷ p.older) c.trail.entries
  tied = subst (λ es. IsTied es c.trail.entries) p.parts t.trail.follows.tied

  literal_is : p.entry.literal ≡ l
  literal_is = older_literal p.newer p.older p.entry c.trail.entries tied ∙ ap (λ i. (entry_at c.trail.entries i).literal) p.count ∙ here

  level_is : p.entry.level ≡ 0
  level_is =
      let at = older_level p.newer p.older p.entry c.trail.entries tied in
      let low = t.trail.follows.sound.levels (length c.units.items) more in
      let same = ap (λ i. (entry_at c.trail.entries i).level) p.count in
      omega (arith, at, low, same, level)

  integer_is : literal z ≡ l
  integer_is = let b = back in cc

  older_tied : IsTied p.older (take (length c.units.items) c.trail.entries)
  older_tied = subst (λ k. IsTied p.older (take k c.trail.entries)) p.count (tied_front (p.newer ++ p.entry ∷ []) p.older c.trail.entries (subst (λ es. IsTied es c.trail.entries) (sym (append_assoc p.newer (p.entry ∷ []) p.older)) tied))

  addition : IsAddition formula s.moment.tables.clauses n (z ∷ [])
  addition = record { within = variables_are_within formula.variables (l ∷ []) (l_within formula c e rows s ok t l more here); free = next_is_free formula (first_row_id c.next) c.next (first_row_id c.next + length rows) s t.log.ranged (omega arith) }

  pub unit_is_search : AreHintsFor s.moment.tables.clauses (l ∷ []) hints → assumes formula.constraints (negate l) ≡ false → IsSearchIn c.tidies formula e.parities after
  unit_is_search right apart_is = unit_rests_keeps formula e.parities s ok n z hints p.newer p.older p.entry p.parts level_is (integer_is ∙ sym literal_is) addition
      (subst (λ m. AreHintsFor s.moment.tables.clauses (m ∷ []) hints) (sym integer_is) right)
      (ap (λ m. is_ending formula.constraints (m ∷ [])) integer_is ∙ ap (λ b. b && true) apart_is) t.log.served.served (on_clauses c.units.items p.older p.rest) clause live
      (subst (Rattle.search_steps.specs.Trail.Forces clause (all_held p.older)) (sym literal_is) (forces_by p.older (take (length c.units.items) c.trail.entries) clause l older_tied forces))

  -- ---- the tables
  abbrev table : Table
  table = map_.insert s.moment.tables.clauses c.next (literal (integer_of l) ∷ [])

  apart : (m : ℕ) (x : List Literal) → get s.moment.tables.clauses m ≡ Some x → m ≢ n
  apart m x is same = no_clause x (sym is ∙ ap (get s.moment.tables.clauses) same ∙ addition.free)

  named_still : (lits : List Literal) (m : ℕ) → IsNamedBy s.moment.tables.clauses lits m → IsNamedBy table lits m
  named_still lits m named = record { clause = named.clause; live = put_other s.moment.tables.clauses n m (literal z ∷ []) (apart m named.clause named.live) ∙ named.live; same = named.same }

  put_here : get table n ≡ Some (l ∷ [])
  put_here = put_same s.moment.tables.clauses n (literal z ∷ []) ∙ ap (λ m. Some (m ∷ [])) integer_is

  still : (k : ℕ) → held k after.trail ≡ held k s.trail
  still k = held_same k p.newer p.older p.entry n ∙ ap (held k) (sym p.parts)

  held_now : has_literal (held 0 after.trail) l ≡ true
  held_now = ap (λ ls. has_literal ls l) (still 0) ∙ ap (has_literal (held 0 s.trail)) (sym here)
      ∙ to_held 0 s.trail c.trail.entries t.trail.follows.tied (length c.units.items) more (let low = t.trail.follows.sound.levels (length c.units.items) more in omega (arith, low, level))

  same_one : same_literals (l ∷ []) (l ∷ []) ≡ true
  same_one = Rattle.std.proofs.lemmas.Bool.and_from _ _ (Rattle.cx_semantics.proofs.Closure.inside_itself (l ∷ [])) (Rattle.cx_semantics.proofs.Closure.inside_itself (l ∷ []))

  module _ (units : Vec ℕ) (grown : units.items ≡ c.units.items ++ c.next ∷ []) (next : ℕ) (next_is : next ≡ c.next + 1) where
    abbrev d : SearchState
    d = record c { units = units; next = next }

    covered_then : (m : ℕ) (x : List Literal) → m < next → get table m ≡ Some x → IsHeld c.tidies c.arena (held 0 after.trail) m x
    covered_then m x low is = by_cases (nat_eq m n)
        (λ q.
        let alone = one_of (sym is ∙ ap (get table) (Rattle.std.proofs.Common.eqb-true m n q) ∙ put_here) in
        inr (inr (
          not_two l x (subst (λ ls. same_literals (l ∷ []) ls ≡ true) (sym alone) same_one),
          record { l = l; has_it = ap (λ ls. has_literal ls l) alone ∙ has_at_head l []; is_held = held_now },
        )))
        (λ q. held_still c.tidies c.arena m s.trail after.trail x (still 0) (t.clauses.covered m x (let apart = eqb-false m n q in omega (arith, low, next_is, apart)) (sym (put_other s.moment.tables.clauses n m (literal z ∷ []) (eqb-false m n q)) ∙ is)))
      where
        one_of : Some x ≡ Some (l ∷ []) → x ≡ l ∷ []
        one_of q = cc

    clauses_then : ClauseTies c.tidies formula table next c.arena c.tidy_below (held 0 after.trail)
    clauses_then = record {
      stored = λ r is_live. let st = t.clauses.stored r is_live in let low = st.low in record { wide = st.wide; named = named_still _ _ st.named; low = omega (arith, low, next_is); late = st.late };
      covered = covered_then;
      apart = t.clauses.apart;
      original = λ x is. subst (λ ls. NeedsNoLearned c.arena ls x) (sym (still 0)) (t.clauses.original x is);
      old = t.clauses.old;
    }

    longer : length units.items ≡ length c.units.items + 1
    longer = ap length grown ∙ length-append c.units.items (c.next ∷ [])

    id_at : (i : ℕ) → i < length units.items
        → ((i < length c.units.items) × (get_or units.items i 0 ≡ get_or c.units.items i 0)) ⊎ ((i ≡ length c.units.items) × (get_or units.items i 0 ≡ n))
    id_at i less = by_cases (nat_lt i (length c.units.items))
        (λ q. let low = ltb-true i (length c.units.items) q in inl (low, ap (λ xs. get_or xs i 0) grown ∙ get_or-append c.units.items (c.next ∷ []) 0 i low))
        (λ q.
        let far = ltb-false i (length c.units.items) q in
        let long = longer in
        let last : i ≡ length c.units.items = omega (arith, far, less, long) in
        inr (last, ap (λ xs. get_or xs i 0) grown ∙ ap (λ j. get_or (c.units.items ++ c.next ∷ []) j 0) last ∙ get_or-append_seam c.units.items c.next [] 0))

    units_then : AreUnits table next c.trail after.trail units.items
    units_then = record {
      few = let long = longer in omega (arith, long, more);
      level_0 = λ i less. elim (id_at i less) [ inl (low, is) ↦ t.units.level_0 i low | inr (last, is) ↦ let at = t.trail.follows.sound.levels i (omega (arith, last, more)) in omega (arith, at, level) ];
      named = λ i less. elim (id_at i less) [
        | inl (low, is) ↦ subst (IsNamedBy table ((entry_at c.trail.entries i).literal ∷ [])) (sym is) (named_still _ _ (t.units.named i low))
        | inr (last, is) ↦ subst (IsNamedBy table ((entry_at c.trail.entries i).literal ∷ [])) (sym is)
            (subst (λ m. IsNamedBy table (m ∷ []) n) (sym (ap (λ j. (entry_at c.trail.entries j).literal) last ∙ here)) (record { clause = l ∷ []; live = put_here; same = same_one }))
      ];
      low = λ i less. elim (id_at i less) [ inl (low, is) ↦ let small = t.units.low i low in omega (arith, small, is, next_is) | inr (last, is) ↦ omega (arith, is, next_is) ];
      newer = p.newer;
      older = rests_on p.entry c.next ∷ p.older;
      parts = refl;
      count = let count = p.count in let long = longer in omega (arith, count, long);
      rest = subst (λ ids. RestOnUnits ids (rests_on p.entry c.next ∷ p.older)) (sym grown) (on_last c.units.items c.next (rests_on p.entry c.next) p.older refl p.rest);
      all = λ high i far less. absurd (omega (arith, high, level));
    }

    fed_then : IsFed after.trail c.given e
    fed_then =
        let r = split_rests e.level t.engine.fed.newer t.engine.fed.older p.newer p.older p.entry c.next (sym t.engine.fed.parts ∙ p.parts) t.engine.fed.now in
        record {
          newer = r.newer;
          older = r.older;
          parts = r.parts;
          count = r.count ∙ t.engine.fed.count;
          now = r.now;
          values = values_still t.engine.fed.older r.older e.values r.still t.engine.fed.values;
          level = t.engine.fed.level ∙ ap level_of p.parts ∙ sym (level_same p.newer p.older p.entry c.next);
        }

    reasons_then : HaveReasons d e
    reasons_then i far less = let long = longer in t.reasons i (omega (arith, far, long)) less

    ranged_then : IsRanged formula next next (next + length rows) after.trail after.moment
    ranged_then = subst (λ k. IsRanged formula k k (k + length rows) after.trail after.moment) (sym next_is)
        (rest_ranged formula (first_row_id c.next) (c.next + 1) (first_row_id c.next + length rows) (told s (Step (ClauseWithHints c.next (integer_of l ∷ []) hints)))
        (clause_ranged formula (first_row_id c.next) c.next (first_row_id c.next + length rows) s t.log.ranged c.next (integer_of l ∷ []) hints (omega arith) (omega arith)) c.next p.newer p.older p.entry p.parts (omega arith))

    learned_still : after.moment.learned ≡ s.moment.learned
    learned_still = ap (λ b. if b then c.next ∷ s.moment.learned else s.moment.learned) t.log.served.served

    rows_still : AreRows table next rows
    rows_still i less = put_other s.moment.tables.clauses c.next (next + i) (literal (integer_of l) ∷ []) (λ same. omega (arith, same, next_is)) ∙ ap (λ k. get s.moment.tables.clauses (k + i)) next_is ∙ t.log.rows_told i less

    few_then : c.tidies ≡ false → HasFewAdditions formula next next (length rows) after
    few_then plain =
        let was = t.log.few_additions plain in
        let one : additions after.events ≡ additions s.events + 1 = additions_join s.events (Step (ClauseWithHints c.next (integer_of l ∷ []) hints) ∷ []) in
        omega (arith, was, one, next_is)

    -- the ids of the clauses of rows begin at the next one now
    pub unit_ties : TiesFrom formula d e next rows after
    unit_ties = record {
      log = record {
        ranged = ranged_then;
        sums = t.log.sums;
        numbered = t.log.numbered;
        rows_told = rows_still;
        few_rows = t.log.few_rows;
        few_additions = few_then;
        none_at_0 = put_other s.moment.tables.clauses c.next 0 (literal (integer_of l) ∷ []) (λ same. let some = t.log.ranged.originals in omega (arith, same, some)) ∙ t.log.none_at_0;
        served = record { served = refl; old_clauses = t.log.served.old_clauses; new_clauses = t.log.served.new_clauses ∙ ap (λ k. row_ids k (length rows)) (sym next_is); old_sums = t.log.served.old_sums; new_sums = t.log.served.new_sums };
      };
      clauses = clauses_then;
      learned = subst (AreLearned c.arena) (sym learned_still) t.learned;
      trail = record { follows = record { tied = tied_rests p.newer p.older p.entry c.next c.trail.entries tied; sound = t.trail.follows.sound }; variables = t.trail.variables; stand = t.trail.stand; phased = t.trail.phased };
      units = units_then;
      engine = record { vars = t.engine.vars; wide = t.engine.wide; theirs = t.engine.theirs; few = t.engine.few; fed = fed_then };
      reasons = reasons_then;
      counts = record {
        marked = t.counts.marked;
        falling = falls_lower c.next next after.moment.learned (omega (arith, next_is)) (subst (IsFallingFrom c.next) (sym learned_still) t.counts.falling);
        many = subst (λ ns. c.learned ≤ length ns) (sym learned_still) t.counts.many;
        few = t.counts.few;
      };
      ids = record { taken = let was = t.ids.taken in let long = longer in omega (arith, was, long, next_is); counted = t.ids.counted; few = t.ids.few };
      levels = t.levels ∙ ap level_of p.parts ∙ sym (level_same p.newer p.older p.entry c.next);
    }
