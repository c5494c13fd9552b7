-- The steps of a row that end the log without what is known at level 0.
use Rattle.std.proofs.Common.{◌≡◌, refl, sym, ap, ◌∙◌, subst, ℕ, suc, ◌+◌, ◌<◌, ◌≤◌, ℤ, Bool, true, false, ◌||◌, nat_eq, List, [], ◌∷◌, ◌++◌, map, length, Option, Some, None, is_some, ◌⊎◌, arith, inl, inr}
use Rattle.std.specs.List.{All, AllByRecursion, list_any, range_with_len, cons_option}
use Rattle.std.proofs.lemmas.List.Elements.{filter_map-append, All-from_recursion}
use Rattle.std.specs.FinSet as set
use Rattle.std.proofs.lemmas.List.{map-append}
use Rattle.std.proofs.lemmas.Bool.{and_parts, and_from, or_parts}
use Rattle.cx_base.specs.Literals.{Literal, negate, differ, literal_true}
use Rattle.cx_base.specs.Assumptions.{is_ending, IsFailed}
use Rattle.cx_base.specs.Integers.{integer_of, integers_of, literals}
use Rattle.cx_base.specs.Parity.{NormalForm, normal_form, sum_of}
use Rattle.cx_base.specs.Problem.{Problem, Unmet, AreWithin, clause_met, parity_met}
use Rattle.cx_base.specs.declared.steps.LogEvent.{LogEvent}
use Rattle.cx_base.specs.declared.steps.LogEvent.TheVariants.{Step}
use Rattle.cx_base.specs.declared.steps.LogStep.TheVariants.{Parity, ClauseOfParity, ParityOfClauses}
use Rattle.cx_base.proofs.Elements.{all_append}
use Rattle.cx_base.proofs.Odd.{parity_met-cons}
use Rattle.cx_semantics.specs.Chain.{has_literal, negations, same_literals}
use Rattle.cx_semantics.specs.LogRules.{AreLive}
use Rattle.cx_semantics.specs.Marked.{Marked}
use Rattle.cx_semantics.specs.ProofRules.{IsSum}
use Rattle.cx_semantics.specs.Tables.{Table, get, named}
use Rattle.cx_semantics.proofs.Members.{has_at_head, has_behind, has_split}
use Rattle.cx_semantics.proofs.RecoveredLaws.{Distinct}
use Rattle.cx_semantics.proofs.Widths.{variables, variables-normal_form, len-normal_form}
use Rattle.cx_trail.specs.Sequence.{TrailState, entry_at, IsTrueIn}
use Rattle.parity_engine.specs.State.{State}
use Rattle.parity_engine.specs.Equations.{numbered}
use Rattle.parity_engine.specs.Written.{AreRising, IsWritten, Rises}
use Rattle.parity_engine.proofs.Rising.{none_below}
use Rattle.cdcl_search.proofs.LowIds.{variables_are_few}
use Rattle.xor_reason.specs.declared.reason.ReasonOf.{ReasonOf}
use Rattle.search_steps.specs.Holding.{AreTold}
use Rattle.search_steps.specs.Ids.{HasFreeSums}
use Rattle.search_steps.specs.LogSteps.{IsAddition, IsClauseOfRow, IsEnded, all_told}
use Rattle.search_steps.specs.Search.{Search, IsSearchIn, told}
use Rattle.search_steps.specs.Size.{additions, most_additions}
use Rattle.search_steps.proofs.SizeLaws.{told_adds}
use Rattle.search_steps.proofs.Ends.{row_clause_ends, row_clause_fails, row_clause_is_marked, ended_is_unmet, row_clause_is_scheduled, row_clause_is_hinted}
use Rattle.search_steps.proofs.IdLaws.{row_next_is_free}
use Rattle.search_steps.proofs.LogLaws.{live_sum_keeps}
use Rattle.search_steps.proofs.StartLaws.{literals_are, variables_are_within}
use Rattle.search_steps.proofs.UnitParities.{unit_parity_keeps}
use Rattle.cdcl_search.specs.declared.state.SearchState.{SearchState}
use Rattle.cdcl_search.specs.Explaining.{Explains}
use Rattle.cdcl_search.specs.Rows.{sum_and_clause_events}
use Rattle.cdcl_search.specs.Tells.{with_events}
use Rattle.cdcl_search.specs.Ties.{Ties, AreNumbered, IsNamedBy, first_row_id}
use Rattle.cdcl_search.proofs.OneSign.{distinct_of_each}
use Rattle.cdcl_search.proofs.RowSteps.{all_told_are, named_are, all_live, parity_within, clause_within}
use Rattle.cdcl_search.proofs.TableLaws.{put_same, put_other}
use Rattle.cdcl_core.specs.Concluding.{IsEndedWith}
use Rattle.cdcl_core.specs.Results.{EndsFor, IsBoundedIn}
use Rattle.xor_reason.specs.ReasonClause.{AreFalseBut}
use Rattle.std.specs.Prelude.{IfOk, Result, Ok, Err}
use Rattle.std.specs.declared.alloc.AllocError.{AllocError}
use Rattle.cdcl_core.specs.declared.conflicts.LogEnd.{LogEnd}
use Rattle.cdcl_core.specs.declared.shortening.Shortened.{Shortened}
use Rattle.cdcl_core.specs.Shortening.{AreShort, ArePartedInto, EndsBy, EndsByRow, IsShortened, IsToldUnit, unit_parity_events, short_row_events}
use Rattle.cdcl_core.specs.declared.shortening.UnitClause.{UnitClause}
use Rattle.cdcl_core.proofs.ShortForms.{alone, clause_form, left_is_sum}
use Rattle.cdcl_core.proofs.FewAdditions.{bounded_in, parities_of_units_add}

-- ---- parts
pub left_more : (lits left : List Literal) (units : List UnitClause) (l : Literal) → ArePartedInto lits left units → ArePartedInto (lits ++ l ∷ []) (left ++ l ∷ []) units
left_more [] left units l p = inl ([], ap (λ xs. xs ++ l ∷ []) p.0, (refl, p.1))
left_more (m ∷ lits) left units l (inl p) = inl (p.0 ++ l ∷ [], ap (λ xs. xs ++ l ∷ []) p.1, left_more lits p.0 units l p.2)
left_more (m ∷ lits) left units l (inr p) = inr (p.0, p.1, p.2, p.3, left_more lits left p.1 l p.4)

pub unit_more : (lits left : List Literal) (units : List UnitClause) (l : Literal) (u : UnitClause) → l ≡ negate u.literal → ArePartedInto lits left units → ArePartedInto (lits ++ l ∷ []) left (units ++ u ∷ [])
unit_more [] left units l u same p = inr (u, [], ap (λ xs. xs ++ u ∷ []) p.1, same, (p.0, refl))
unit_more (m ∷ lits) left units l u same (inl p) = inl (p.0, p.1, unit_more lits p.0 units l u same p.2)
unit_more (m ∷ lits) left units l u same (inr p) = inr (p.0, p.1 ++ u ∷ [], ap (λ xs. xs ++ u ∷ []) p.2, p.3, unit_more lits left p.1 l u same p.4)

-- what is left is in the clause
pub left_inside : (lits left : List Literal) (units : List UnitClause) → ArePartedInto lits left units → (m : Literal) → has_literal left m ≡ true → has_literal lits m ≡ true
left_inside [] left units p m h = sym (ap (λ ls. has_literal ls m) p.0) ∙ h
left_inside (l ∷ lits) left units (inl p) m h = elim (has_split l p.0 m (sym (ap (λ ls. has_literal ls m) p.1) ∙ h)) [
  | inl e ↦ ap (has_literal (l ∷ lits)) e ∙ has_at_head l lits
  | inr g ↦ has_behind l lits m (left_inside lits p.0 units p.2 m g)
]
left_inside (l ∷ lits) left units (inr p) m h = has_behind l lits m (left_inside lits left p.1 p.4 m h)

module _ (P : Literal → Type 0) where
  pub left_all : (lits left : List Literal) (units : List UnitClause) → ArePartedInto lits left units → AllByRecursion P lits → AllByRecursion P left
  left_all [] left units p a = subst (AllByRecursion P) (sym p.0) tt
  left_all (l ∷ lits) left units (inl p) a = subst (AllByRecursion P) (sym p.1) (a.0, left_all lits p.0 units p.2 a.1)
  left_all (l ∷ lits) left units (inr p) a = left_all lits left p.1 p.4 a.1

not_inside : (y : ℕ) (lits left : List Literal) (units : List UnitClause) → ArePartedInto lits left units → list_any (λ z. nat_eq z y) (variables lits) ≡ false
    → list_any (λ z. nat_eq z y) (variables left) ≡ false
not_inside y [] left units p h = ap (λ ls. list_any (λ z. nat_eq z y) (variables ls)) p.0
not_inside y (l ∷ lits) left units (inl p) h =
    let parts = or_parts (nat_eq l.variable y) _ h in
    ap (λ ls. list_any (λ z. nat_eq z y) (variables ls)) p.1
    ∙ (λ i. parts.0 i || not_inside y lits p.0 units p.2 parts.1 i)
not_inside y (l ∷ lits) left units (inr p) h = not_inside y lits left p.1 p.4 (or_parts (nat_eq l.variable y) _ h).1

left_distinct : (lits left : List Literal) (units : List UnitClause) → ArePartedInto lits left units → Distinct (variables lits) → Distinct (variables left)
left_distinct [] left units p d = subst (λ ls. Distinct (variables ls)) (sym p.0) tt
left_distinct (l ∷ lits) left units (inl p) d = subst (λ ls. Distinct (variables ls)) (sym p.1) (not_inside l.variable lits p.0 units p.2 d.0, left_distinct lits p.0 units p.2 d.1)
left_distinct (l ∷ lits) left units (inr p) d = left_distinct lits left p.1 p.4 d.1

left_ending : (formula : Problem) (lits left : List Literal) (units : List UnitClause) → ArePartedInto lits left units → is_ending formula.constraints lits ≡ true → is_ending formula.constraints left ≡ true
left_ending formula [] left units p h = ap (is_ending formula.constraints) p.0
left_ending formula (l ∷ lits) left units (inl p) h =
    let parts = and_parts _ _ h in
    ap (is_ending formula.constraints) p.1 ∙ and_from _ _ parts.0 (left_ending formula lits p.0 units p.2 parts.1)
left_ending formula (l ∷ lits) left units (inr p) h = left_ending formula lits left p.1 p.4 (and_parts _ _ h).1

-- a parity with each variable once implies the clause of its literals
any_of_odd : (v : List Bool) (lits : List Literal) → parity_met v lits ≡ true → clause_met v lits ≡ true
any_of_odd v [] h = h
any_of_odd v (l ∷ lits) h = go (literal_true v l) (any_of_odd v lits) (sym (parity_met-cons v l lits) ∙ h)
  where
    go : (b : Bool) → (parity_met v lits ≡ true → clause_met v lits ≡ true) → differ b (parity_met v lits) ≡ true → (b || clause_met v lits) ≡ true
    go true rest e = refl
    go false rest e = rest e

own_clause : (n : ℕ) (lits : List Literal) → AreWithin n lits → Distinct (variables lits) → IsClauseOfRow n lits lits
own_clause n lits within d = record {
  within = within;
  one_of_each = record { same = sym (variables-normal_form lits d); once = sym (len-normal_form lits d) };
  implied = λ values h. any_of_odd values lits h;
}

-- ---- events one after another
pub told_then : (xs ys : List LogEvent) (s : Search) → all_told s (xs ++ ys) ≡ all_told (all_told s xs) ys
told_then [] ys s = refl
told_then (x ∷ xs) ys s = told_then xs ys (told s x)

-- ---- the parities of units
-- the unit is of a variable of the formula, and is the live clause of its id
pub record IsUnitIn (n : ℕ) (table : Table) (u : UnitClause) : Type 0 where
  pub within : AreWithin n (alone u)
  pub live : IsNamedBy table (alone u) u.id

-- the parities of the units were told, under the ids from the first one on
pub record AreJoined (tidies : Bool) (formula : Problem) (parities : List (List Literal)) (old new : Search) (k : ℕ) (units : List UnitClause) : Type 0 where
  pub search : IsSearchIn tidies formula parities new
  pub clauses : new.moment.tables.clauses ≡ old.moment.tables.clauses
  pub low : (m : ℕ) → m < k → get new.moment.tables.parities m ≡ get old.moment.tables.parities m
  pub names : named new.moment.tables.parities (range_with_len k (length units)) ≡ map alone units
  pub live : AreLive new.moment.tables.parities (range_with_len k (length units))
  pub free : (n : ℕ) → k + length units ≤ n → get new.moment.tables.parities n ≡ None
  pub served : new.moment.awaits ≡ false
  pub conflicts : new.conflicts ≡ old.conflicts

module _ (tidies : Bool) (formula : Problem) (parities : List (List Literal)) where
  unit_back : (u : UnitClause) → AreWithin formula.variables (alone u) → literals (integer_of u.literal ∷ []) ≡ alone u
  unit_back u within = literals_are formula.variables (alone u) within

  one_is : (u : UnitClause) (k : ℕ) (s : Search) → IsSearchIn tidies formula parities s → IsUnitIn formula.variables s.moment.tables.clauses u → get s.moment.tables.parities k ≡ None
      → IsSearchIn tidies formula parities (told s (Step (ParityOfClauses k (integer_of u.literal ∷ []) (u.id ∷ []))))
  one_is u k s ok is free = unit_parity_keeps formula parities s ok k (integer_of u.literal) u.id is.live.clause (record { within = variables_are_within formula.variables (alone u) is.within; free = free }) is.live.live
      (ap (λ ls. same_literals ls is.live.clause) (unit_back u is.within) ∙ is.live.same)

  one_more : (u : UnitClause) (units : List UnitClause) (k : ℕ) (s : Search) → ((n : ℕ) → k ≤ n → get s.moment.tables.parities n ≡ None) → IsUnitIn formula.variables s.moment.tables.clauses u
      → AreJoined tidies formula parities (told s (Step (ParityOfClauses k (integer_of u.literal ∷ []) (u.id ∷ [])))) (all_told s (unit_parity_events k (u ∷ units))) (k + 1) units
      → AreJoined tidies formula parities s (all_told s (unit_parity_events k (u ∷ units))) k (u ∷ units)
  one_more u units k s free is rest = record {
    search = rest.search;
    clauses = rest.clauses;
    low = λ m less. rest.low m (omega (arith, less)) ∙ put_other s.moment.tables.parities k m (literals (integer_of u.literal ∷ [])) (λ same. omega (arith, same, less));
    names = ap (λ o. cons_option o (named (all_told s (unit_parity_events k (u ∷ units))).moment.tables.parities (range_with_len (k + 1) (length units)))) at ∙ ap (λ ps. alone u ∷ ps) rest.names;
    live = (ap is_some at, rest.live);
    free = λ n high. rest.free n (omega (arith, high));
    served = rest.served;
    conflicts = rest.conflicts;
  }
    where
      at : get (all_told s (unit_parity_events k (u ∷ units))).moment.tables.parities k ≡ Some (alone u)
      at = rest.low k (omega arith) ∙ put_same s.moment.tables.parities k (literals (integer_of u.literal ∷ [])) ∙ ap Some (unit_back u is.within)

  pub join : (units : List UnitClause) (k : ℕ) (s : Search) → IsSearchIn tidies formula parities s → AllByRecursion (IsUnitIn formula.variables s.moment.tables.clauses) units → ((n : ℕ) → k ≤ n → get s.moment.tables.parities n ≡ None)
      → s.moment.awaits ≡ false → AreJoined tidies formula parities s (all_told s (unit_parity_events k units)) k units
  join [] k s ok all free served = record {
    search = ok;
    clauses = refl;
    low = λ m less. refl;
    names = refl;
    live = tt;
    free = λ n high. free n (omega (arith, high));
    served = served;
    conflicts = refl;
  }
  join (u ∷ units) k s ok all free served = one_more u units k s free all.0 (join units (k + 1) (told s (Step (ParityOfClauses k (integer_of u.literal ∷ []) (u.id ∷ []))))
      (one_is u k s ok all.0 (free k (omega arith))) all.1 (λ n high. put_other s.moment.tables.parities k n (literals (integer_of u.literal ∷ [])) (λ same. omega (arith, same, high)) ∙ free n (omega (arith, high))) served)

-- a unit that was told is one
pub told_unit : (formula : Problem) (c : SearchState) (e : State) (rows : List (List Literal)) (s : Search) → Ties formula c e rows s → (u : UnitClause) → IsToldUnit c u → IsUnitIn formula.variables s.moment.tables.clauses u
told_unit formula c e rows s t u told_ =
    let i = told_.0 in
    let less = told_.1 in
    let at = told_.2 in
    let same = ap (λ (l : Literal). l.variable) at in
    let few = t.units.few in
    let on : i < length c.trail.entries = omega (arith, less, few) in
    let low = t.trail.follows.sound.low i on in
    let high = t.trail.follows.sound.high i on in
    let vars = t.trail.variables in
    record {
      within = ((omega (arith, low, same), omega (arith, high, same, vars)), tt);
      live = subst (λ l. IsNamedBy s.moment.tables.clauses (l ∷ []) u.id) at (subst (IsNamedBy s.moment.tables.clauses ((entry_at c.trail.entries i).literal ∷ [])) (sym told_.3) (t.units.named i less));
    }

pub told_units : (formula : Problem) (c : SearchState) (e : State) (rows : List (List Literal)) (s : Search) → Ties formula c e rows s → (units : List UnitClause) → AllByRecursion (IsToldUnit c) units
    → AllByRecursion (IsUnitIn formula.variables s.moment.tables.clauses) units
told_units formula c e rows s t [] a = tt
told_units formula c e rows s t (u ∷ units) a = (told_unit formula c e rows s t u a.0, told_units formula c e rows s t units a.1)

-- ---- negations
pub negations_all : (P : Literal → Type 0) (lits : List Literal) → AllByRecursion (λ l. P (negate l)) lits → AllByRecursion P (negations lits)
negations_all P [] a = tt
negations_all P (l ∷ lits) a = (a.0, negations_all P lits a.1)

pub false_negations : (t : TrailState) (clause : List Literal) → AreFalseBut t None clause → (lits : List Literal) → ((m : Literal) → has_literal lits m ≡ true → has_literal clause m ≡ true) → AllByRecursion (IsTrueIn t.entries) (negations lits)
false_negations t clause f [] h = tt
false_negations t clause f (l ∷ lits) h = (f l (h l (has_at_head l lits)), false_negations t clause f lits (λ m k. h m (has_behind l lits m k)))

-- where each literal of the trail has a unit clause, nothing is left that is true
pub none_left_true : (c : SearchState) (failed : List Literal) → length c.units.items ≡ length c.trail.entries → AreShort c None failed → failed ≡ []
none_left_true c [] all short = refl
none_left_true c (l ∷ failed) all short =
    let at = (short.are_true refl).0 in
    absurd (short.no_unit.0 at.0 (let less = at.1.0 in omega (arith, less, all)) at.1.1)

-- ---- the row without them ends the log
-- before the last steps: the engine's parities are under their numbers, and ids from k on are free for sums, n for a clause
pub record IsReadyToEnd (tidies : Bool) (formula : Problem) (theirs : List (List Literal)) (marks k n : ℕ) (s : Search) : Type 0 where
  pub search : IsSearchIn tidies formula theirs s
  pub below : length theirs < k
  pub numbered : AreNumbered s.moment.tables.parities theirs
  pub sums : HasFreeSums (length theirs) s.moment
  pub free : get s.moment.tables.clauses n ≡ None
  pub served : s.moment.awaits ≡ false
  pub marked : s.conflicts ≡ marks

-- what is left of a row: an ending clause with each variable once, which is the sum of the row's sources and of the units
pub record IsLeftOfRow (formula : Problem) (theirs : List (List Literal)) (sources : List ℕ) (units : List UnitClause) (left : List Literal) : Type 0 where
  pub numbers : AreRising 1 (length theirs) sources
  pub within : AreWithin formula.variables left
  pub distinct : Distinct (variables left)
  pub sums : normal_form left ≡ sum_of (map normal_form (numbered theirs sources) ++ map normal_form (map alone units))
  pub ends : is_ending formula.constraints left ≡ true

module _ {tidies : Bool} (formula : Problem) (theirs : List (List Literal)) (marks k n : ℕ) (s : Search) (ready : IsReadyToEnd tidies formula theirs marks k n s) (sources : List ℕ) (units : List UnitClause) (left : List Literal)
    (row : IsLeftOfRow formula theirs sources units left) (are : AllByRecursion (IsUnitIn formula.variables s.moment.tables.clauses) units) where
  abbrev zs : List ℤ
  zs = integers_of left

  abbrev ids : List ℕ
  ids = sources ++ range_with_len k (length units)

  abbrev s1 : Search
  s1 = all_told s (unit_parity_events k units)

  joined : AreJoined tidies formula theirs s s1 k units
  joined = join tidies formula theirs units k s ready.search are (λ m h. ready.sums m (let few = ready.below in omega (arith, h, few))) ready.served

  left_back : literals zs ≡ left
  left_back = literals_are formula.variables left row.within

  numbered_still : AreNumbered s1.moment.tables.parities theirs
  numbered_still m low few = joined.low m (let above = ready.below in omega (arith, few, above)) ∙ ready.numbered m low few

  all_are_live : AreLive s1.moment.tables.parities ids
  all_are_live = all_append _ sources (range_with_len k (length units)) (all_live s1.moment.tables.parities theirs numbered_still 1 sources (omega arith) row.numbers) joined.live

  names_are : named s1.moment.tables.parities ids ≡ numbered theirs sources ++ map alone units
  names_are = filter_map-append (get s1.moment.tables.parities) sources (range_with_len k (length units))
      ∙ (λ i. named_are s1.moment.tables.parities theirs numbered_still 1 sources (omega arith) row.numbers i ++ joined.names i)

  sums : IsSum (literals zs) (named s1.moment.tables.parities ids)
  sums = ap normal_form left_back ∙ row.sums ∙ ap sum_of (sym (map-append normal_form (numbered theirs sources) (map alone units)) ∙ ap (map normal_form) (sym names_are))

  abbrev s2 : Search
  s2 = told s1 (Step (Parity (k + length units) zs ids))

  s2_is : IsSearchIn tidies formula theirs s2
  s2_is = live_sum_keeps formula theirs s1 joined.search (k + length units) zs ids (record { within = variables_are_within formula.variables left row.within; free = joined.free (k + length units) (omega arith) }) all_are_live sums

  sum_there : get s2.moment.tables.parities (k + length units) ≡ Some (literals zs)
  sum_there = put_same s1.moment.tables.parities (k + length units) (literals zs)

  added : IsAddition formula s2.moment.tables.clauses n zs
  added = record { within = variables_are_within formula.variables left row.within; free = ap (λ (table : Table). get table n) joined.clauses ∙ ready.free }

  clause_is : IsClauseOfRow formula.variables (literals zs) (literals zs)
  clause_is = subst (λ ls. IsClauseOfRow formula.variables ls ls) (sym left_back) (own_clause formula.variables left row.within row.distinct)

  ends_told : is_ending formula.constraints (literals zs) ≡ true
  ends_told = ap (is_ending formula.constraints) left_back ∙ row.ends

  abbrev both : List LogEvent
  both = sum_and_clause_events (k + length units) zs ids n zs

  pub left_fails : IsFailed formula (negations left)
  left_fails = subst (λ ls. IsFailed formula (negations ls)) left_back (row_clause_fails formula theirs s2 s2_is n zs (k + length units) (literals zs) added sum_there clause_is ends_told)

  ended : IsEnded formula (all_told s1 both).events
  ended = row_clause_ends formula theirs s2 s2_is n zs (k + length units) (literals zs) added sum_there clause_is ends_told

  is_marked : Marked formula (all_told s1 both).events marks
  is_marked = subst (Marked formula (all_told s1 both).events) (joined.conflicts ∙ ready.marked) (row_clause_is_marked formula theirs s2 s2_is n zs (k + length units) (literals zs) joined.served sum_there clause_is)

  pub left_is_unmet : Unmet formula
  left_is_unmet = ended_is_unmet formula (all_told s1 both).events ended

  end_for : EndsFor formula (all_told s1 both).events (negations left)
  end_for = record { ended = ended; last = λ apart. (s2.events, ClauseOfParity n zs (k + length units), refl, ap negations (sym left_back)) }

  left_is_bounded : (tidies ≡ false → additions s.events + length units + 2 ≤ most_additions formula marks) → IsBoundedIn tidies formula marks (all_told s1 both).events
  left_is_bounded few = bounded_in tidies formula marks (all_told s1 both).events (λ plain.
      let room = few plain in
      let two : additions (all_told s1 both).events ≡ additions s1.events + 2 = told_adds s1 both in
      let join = told_adds s (unit_parity_events k units) in
      let parities = parities_of_units_add k units in
      omega (arith, two, join, parities, room))

  pub left_ends : (tidies ≡ false → additions s.events + length units + 2 ≤ most_additions formula marks) → (told_ : Option (List LogEvent)) → AreTold told_ s.events → IsEndedWith tidies formula marks (negations left) (with_events (short_row_events k sources units left n) told_)
  left_ends few None a = tt
  left_ends few (Some es) a = subst (λ xs. IsEndedWith tidies formula marks (negations left) (Some xs))
      (ap (λ (x : Search). x.events) (sym (told_then (unit_parity_events k units) both s)) ∙ sym (all_told_are (short_row_events k sources units left n) s (Some es) a)) (end_for, is_marked, row_clause_is_scheduled formula theirs s2 s2_is n zs (k + length units), row_clause_is_hinted formula theirs s2 s2_is n zs (k + length units), left_is_bounded few)

-- ---- how many literals a row has
rising_distinct : (least : ℕ) (vs : List ℕ) → Rises least vs → Distinct vs
rising_distinct least [] r = tt
rising_distinct least (v ∷ vs) r = (none_below (v + 1) vs v r.1 (omega arith), rising_distinct (v + 1) vs r.1)

written_length : (form : NormalForm) (lits : List Literal) → IsWritten form lits → set.len form.variables ≡ length lits
written_length form lits w = ap (λ (f : NormalForm). set.len f.variables) (sym w.normal) ∙ len-normal_form lits (rising_distinct 1 (variables lits) w.rises)

rising_count : (least n : ℕ) (lits : List Literal) → Rises least (variables lits) → AreWithin n lits → (length lits + least ≤ n + 1) ⊎ (length lits ≡ 0)
rising_count least n [] r w = inr refl
rising_count least n (l ∷ lits) r w = inl (go (rising_count (l.variable + 1) n lits r.1 w.1))
  where
    go : (length lits + (l.variable + 1) ≤ n + 1) ⊎ (length lits ≡ 0) → suc (length lits) + least ≤ n + 1
    go (inl h) = let low = r.0 in omega (arith, h, low)
    go (inr none) = let low = r.0 in let high = w.0.1 in omega (arith, none, low, high)

few_literals : (n : ℕ) (lits : List Literal) → Rises 1 (variables lits) → AreWithin n lits → length lits ≤ n
few_literals n lits r w = elim (rising_count 1 n lits r w) [ inl h ↦ omega (arith, h) | inr none ↦ omega (arith, none) ]

-- ---- what is left when the units that were told are taken out
module _ (formula : Problem) (c : SearchState) (e : State) (rows : List (List Literal)) (s : Search) (ok : IsSearchIn c.tidies formula e.parities s) (t : Ties formula c e rows s) where
  pub ready_to_end : IsReadyToEnd c.tidies formula e.parities c.conflicts (length formula.constraints + 1) (first_row_id c.next + length rows) s
  ready_to_end = record {
    search = ok;
    below = let few = t.engine.few in omega (arith, few);
    numbered = t.log.numbered;
    sums = t.log.sums;
    free = row_next_is_free formula (first_row_id c.next) c.next (first_row_id c.next + length rows) s t.log.ranged (omega arith);
    served = t.log.served.served;
    marked = t.counts.marked;
  }

  module _ (r : ReasonOf) (x : Explains e.parities c.trail r) where
    -- the variables of a row's clause are those of the trail, and it has no more literals than the formula variables
    pub known_by : All (λ (l : Literal). l.variable ≤ c.trail.variables) r.clause
    known_by = All-from_recursion (λ (l : Literal). l.variable ≤ c.trail.variables) r.clause (low r.clause (clause_within formula c e rows s t r x))
      where
        low : (lits : List Literal) → AreWithin formula.variables lits → AllByRecursion (λ (l : Literal). l.variable ≤ c.trail.variables) lits
        low [] w = tt
        low (l ∷ lits) w = (let high = w.0.1 in let same = t.trail.variables in omega (arith, high, same), low lits w.1)

    pub few_by : length r.clause ≤ formula.variables
    few_by =
        let each = x.one_of_each.once in
        let written = written_length x.form r.parity x.written in
        let few = few_literals formula.variables r.parity x.written.rises (parity_within formula c e rows s t r x) in
        omega (arith, each, written, few)

    pub short_by : length r.clause ≤ 268435455
    short_by =
        let few = few_by in
        let vars = variables_are_few formula c e (first_row_id c.next) rows s t in
        omega (arith, few, vars)

    pub clause_normal : normal_form r.clause ≡ sum_of (map normal_form (numbered e.parities r.sources))
    clause_normal = clause_form x.form formula.variables r.parity r.clause x.written.normal x.one_of_each (parity_within formula c e rows s t r x) (clause_within formula c e rows s t r x) x.follows ∙ x.sums

    pub is_left : (left : List Literal) (units : List UnitClause) → ArePartedInto r.clause left units → is_ending formula.constraints r.clause ≡ true → IsLeftOfRow formula e.parities r.sources units left
    is_left left units parts ends = record {
      numbers = x.numbers;
      within = left_all (λ l. (1 ≤ l.variable) × (l.variable ≤ formula.variables)) r.clause left units parts (clause_within formula c e rows s t r x);
      distinct = left_distinct r.clause left units parts (distinct_of_each x.form r.clause x.one_of_each);
      sums = left_is_sum r.clause left units parts (map normal_form (numbered e.parities r.sources)) clause_normal;
      ends = left_ending formula r.clause left units parts ends;
    }

-- the last steps after none, by what is left of the row's clause
pub ends_by_row : (r : Result LogEnd AllocError) (c : SearchState) (constraints : ℕ) (reason : ReasonOf) (short : Shortened) → IsShortened c reason.clause short → (n : ℕ) → n ≡ first_row_id c.next → (before : List LogEvent) → before ≡ []
    → IfOk r (EndsBy constraints n reason.sources short before) → IfOk r (EndsByRow c constraints reason)
ends_by_row (Ok e) c constraints reason short s n id before none h = record { short = short; shortened = s; ends = subst (λ m. EndsBy constraints m reason.sources short [] e) id (subst (λ es. EndsBy constraints n reason.sources short es e) none h) }
ends_by_row (Err x) c constraints reason short s n id before none h = tt
