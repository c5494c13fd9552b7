-- Rows whose clauses would end the log, and the first of these.
use Rattle.std.proofs.Common.{◌≡◌, ◌≢◌, refl, sym, ap, ◌∙◌, subst, ℕ, ℤ, pos, zero, suc, append-nil, ◌+◌, ◌<◌, ◌≤◌, Bool, true, false, not, cond, ◌⊎◌, inl, inr, nat_eq, nat_lt, eqb-true, ◌||◌, List, [], ◌∷◌, ◌++◌, length, map, filter, get_or, reverse, Option, Some, None, arith, true≢false}
use Rattle.std.specs.List.{AllByRecursion}
use Rattle.std.proofs.lemmas.Bool.{ltb-true, ltb-false}
use Rattle.std.proofs.lemmas.List.{map-append, reverse-append}
use Rattle.std.proofs.lemmas.List.Elements.{filter-append}
use Rattle.std.proofs.lemmas.Option.{same_Some}
use Rattle.std.specs.FinSet as set
use Rattle.cx_base.specs.Assumptions.{assumes, clashes, is_ending}
use Rattle.cx_base.specs.Literals.{Literal, negate, same_literal, differ}
use Rattle.cx_base.specs.Parity.{NormalForm, HasOneOfEach}
use Rattle.cx_base.specs.declared.constraint.Constraint.{Constraint}
use Rattle.cx_base.proofs.LiteralLaws.{negate-negate, are_one}
use Rattle.cx_semantics.specs.Chain.{has_literal}
use Rattle.cx_semantics.specs.Fresh.{is_tautology}
use Rattle.cx_semantics.specs.Tables.{Table}
use Rattle.cx_semantics.proofs.Members.{all_by, has_at_head, has_behind}
use Rattle.cx_semantics.proofs.Widths.{variable_in}
use Rattle.std.specs.Prelude.{Contains, Err, IfOk, IfSome, IsSome, Ok, Result}
use Rattle.cx_trail.specs.Sequence.{TrailState, IsTrail, IsTrueIn, IsFalseIn, IsFalseBefore, entry_at}
use Rattle.conflict_learn.specs.declared.learning.Resolved.{Resolved}
use Rattle.conflict_learn.specs.Learning.{AreAntecedents, AreHeld, Follows, IsAntecedent, ids_of, literal_at}
use Rattle.conflict_learn.proofs.ChainOfResolutions.{by_cases}
use Rattle.parity_engine.specs.Equations.{sum_of_numbers}
use Rattle.parity_engine.specs.State.{State, Named, named_at, OfNamed}
use Rattle.parity_engine.specs.Written.{AreRising, IsWritten}
use Rattle.search_steps.specs.Tied.{IsLiveOr}
use Rattle.search_steps.proofs.BesideUnits.{some_member}
use Rattle.search_steps.proofs.Sets.{not_both}
use Rattle.xor_reason.specs.ReasonClause.{AreFalseBut, IsReasonClause}
use Rattle.xor_reason.specs.Reasons.{IsReason, IsReasonBy}
use Rattle.xor_reason.specs.Sums.{has_variable, HasVariablesOfSum}
use Rattle.xor_reason.specs.declared.reason.ReasonOf.{ReasonOf}
use Rattle.cdcl_search.specs.declared.state.SearchState.{SearchState}
use Rattle.cdcl_search.specs.Sources.{IsSourcedBy}
use Rattle.cdcl_search.specs.Tells.{IsId}
use Rattle.cdcl_search.proofs.EndingClauses.{ending_assumes, not_ending}
use Rattle.cdcl_search.proofs.RowReasons.{all_assigned, gives_literal}
use Rattle.cdcl_search.proofs.RowSteps.{in_form}
use Rattle.cdcl_search.proofs.OneSign.{one_sign}
use Rattle.cdcl_search.proofs.LowIds.{has_ids}
use Rattle.cdcl_search.proofs.SourceLaws.{last_is_sourced, sourced_grows, sourced_is_named}
use Rattle.cdcl_search.proofs.TableLaws.{apart}
use Rattle.cdcl_search.specs.Explaining.{Explains, IsReasonOf}
use Rattle.cdcl_search.specs.Ties.{HasReasonOf, HaveReasons, SearchStands, first_row_id}
use Rattle.search_steps.proofs.IdLaws.{next_is_free}
use Rattle.search_steps.proofs.LearnedLaws.{followed_is_hinted}
use Rattle.cdcl_core.proofs.BesideHints.{AreNamedBeside, beside_is_hinted, named_then_beside, nothing_named, untold_then_beside}
use Rattle.search_steps.specs.Hints.{AreHintsFor, IsNamedBy, hints_from}
use Rattle.cx_base.specs.Problem.{Problem}
use Rattle.cx_base.specs.declared.steps.LogEvent.{LogEvent}
use Rattle.cx_trail.specs.declared.entry.Reason.TheVariants.{Row}
use Rattle.cdcl_core.specs.Concluding.{EndsByHints, EndsLog, IsConflictClause, IsRefutedBy}
use Rattle.cdcl_core.specs.Refuting.{is_told, IsHeldBeside, IsLiteralOf, IsUntold, IsFirst, IsFirstEnding, HasRowBeside, HasVariablesOf, HasVariableOf, NoneEnds, RowGoesOn}
use Rattle.cdcl_core.specs.Shortening.{EndsByUnits}
use Rattle.cdcl_core.specs.declared.conflicts.LogEnd.{LogEnd}
use Rattle.cdcl_core.specs.declared.ending_rows.EndingRow.{EndingRow}
use Rattle.cdcl_core.proofs.AgainstLaws.{both_assumed_clash}
use Rattle.cdcl_core.proofs.ConflictLaws.{against}
use Rattle.cdcl_core.proofs.FewAdditions.{ties_add_few}
use Rattle.cdcl_core.proofs.HintIds.{resolved_have, sourced_is_id}
use Rattle.cdcl_core.proofs.LateLaws.{AreHintsBeside, refuted_ends, refuted_none}
use Rattle.cdcl_search.specs.Finds.{IsClash}

-- ---- clauses that are no tautologies
not_itself : (m : Literal) → negate m ≡ m → ⊥
not_itself m e = go m.negative (ap (λ (l : Literal). l.negative) e)
  where
    go : (b : Bool) → not b ≡ b → ⊥
    go true h = true≢false (sym h)
    go false h = true≢false h

module _ (t : TrailState) (sound : IsTrail t) where
  -- a literal and its negation are not both false
  pub not_both_false : (m : Literal) → IsFalseIn t.entries m → IsFalseIn t.entries (negate m) → ⊥
  not_both_false m f g =
      let same : f.0 ≡ g.0 = sound.distinct f.0 g.0 f.1.0 g.1.0 (ap (λ (x : Literal). x.variable) f.1.1 ∙ sym (ap (λ (x : Literal). x.variable) g.1.1)) in
      not_itself m (sym f.1.1 ∙ ap (literal_at t) same ∙ g.1.1 ∙ negate-negate m)

  pub false_is_plain : (clause : List Literal) → ((m : Literal) → has_literal clause m ≡ true → IsFalseIn t.entries m) → is_tautology clause ≡ false
  false_is_plain clause all = by_cases (is_tautology clause)
      (λ e. let w = some_member (λ l. has_literal clause (negate l)) clause e in absurd (not_both_false w.0 (all w.0 w.1) (all (negate w.0) w.2)))
      (λ e. e)

  module _ (l : Literal) (place : ℕ) (within : place < length t.entries) (at : literal_at t place ≡ l) (clause : List Literal) (a : IsAntecedent t l clause) where
    -- no earlier literal is the implied one
    none_before : (j : ℕ) → j < place → literal_at t j ≡ literal_at t place → ⊥
    none_before j less same =
        let e : j ≡ place = sound.distinct j place (omega (arith, less, within)) within (ap (λ (x : Literal). x.variable) same) in
        omega (arith, less, e)

    clashing : (m : Literal) → has_literal clause m ≡ true → has_literal clause (negate m) ≡ true → ⊥
    clashing m h k =
        let i = a place within at in
        by_cases (same_literal (literal_at t place) m)
        (λ e. by_cases (same_literal (literal_at t place) (negate m))
        (λ g. not_itself m (sym (are_one (literal_at t place) (negate m) g) ∙ are_one (literal_at t place) m e))
        (λ g. let f = i.others_false (negate m) k g in none_before f.0 f.1 (f.2 ∙ negate-negate m ∙ sym (are_one (literal_at t place) m e))))
        (λ e.
        let f = i.others_false m h e in
        by_cases (same_literal (literal_at t place) (negate m))
        (λ g. none_before f.0 f.1 (f.2 ∙ sym (are_one (literal_at t place) (negate m) g)))
        (λ g.
        let d = i.others_false (negate m) k g in
        let less = f.1 in
        let low = d.1 in
        not_both_false m (f.0, (omega (arith, less, within), f.2)) (d.0, (omega (arith, low, within), d.2))))

    pub antecedent_is_plain : is_tautology clause ≡ false
    antecedent_is_plain = by_cases (is_tautology clause)
        (λ e. let w = some_member (λ x. has_literal clause (negate x)) clause e in absurd (clashing w.0 w.1 w.2))
        (λ e. e)

  -- a false literal of a true one's variable is its negation
  pub opposite : (k b : Literal) → IsFalseIn t.entries k → IsTrueIn t.entries b → k.variable ≡ b.variable → k ≡ negate b
  opposite k b f g same =
      let e : f.0 ≡ g.0 = sound.distinct f.0 g.0 f.1.0 g.1.0 (ap (λ (x : Literal). x.variable) f.1.1 ∙ same ∙ sym (ap (λ (x : Literal). x.variable) g.1.1)) in
      sym (negate-negate k) ∙ ap negate (sym f.1.1 ∙ ap (literal_at t) e ∙ g.1.1)

  -- false literals of one variable are one
  pub same_false : (k m : Literal) → IsFalseIn t.entries k → IsFalseIn t.entries m → k.variable ≡ m.variable → k ≡ m
  same_false k m f g same =
      let e : f.0 ≡ g.0 = sound.distinct f.0 g.0 f.1.0 g.1.0 (ap (λ (x : Literal). x.variable) f.1.1 ∙ same ∙ sym (ap (λ (x : Literal). x.variable) g.1.1)) in
      sym (negate-negate k) ∙ ap negate (sym f.1.1 ∙ ap (literal_at t) e ∙ g.1.1) ∙ negate-negate m

-- ---- variables of clauses
row_is : (a b : ℕ) → Row a ≡ Row b → a ≡ b
row_is a b e = cc (e)

clause_in : (form : NormalForm) (clause : List Literal) → HasOneOfEach form.variables clause → (v : ℕ) → set.contains form.variables v ≡ true → has_variable clause v ≡ true
clause_in form clause each v h = sym (set.contains-from_list_nat (map (λ (l : Literal). l.variable) clause) v) ∙ ap (λ s. set.contains s v) each.same ∙ h

pub with_variable : (lits : List Literal) (v : ℕ) → has_variable lits v ≡ true → (m : Literal) × (has_literal lits m ≡ true) × (m.variable ≡ v)
with_variable [] v h = absurd (true≢false (sym h))
with_variable (l ∷ lits) v h = by_cases (nat_eq l.variable v)
    (λ e. (l, has_at_head l lits, eqb-true l.variable v e))
    (λ e. let w = with_variable lits v (sym (ap (λ b. b || has_variable lits v) e) ∙ h) in (w.0, has_behind l lits w.0 w.1, w.2))

-- ---- the first row whose clause would end the log
module _ (constraints : List Constraint) (none : clashes constraints ≡ false) (t : TrailState) (sound : IsTrail t) (b : Literal) (b_true : IsTrueIn t.entries b) (assumed : assumes constraints (negate b) ≡ true) where
  -- no other ending clause has its variable
  ending_has_not : (clause : List Literal) (implied : Option Literal) → AreFalseBut t implied clause → IfSome implied (λ l. l.variable ≢ b.variable) → is_ending constraints clause ≡ true → has_variable clause b.variable ≡ false
  ending_has_not clause implied false_but apart ends = by_cases (has_variable clause b.variable)
      (λ e.
      let w = with_variable clause b.variable e in
      let is = opposite t sound w.0 b (is_false implied false_but apart w.0 w.1 w.2) b_true w.2 in
      not_both (clashes constraints)
      (both_assumed_clash constraints b (ap (assumes constraints) (sym (negate-negate b)) ∙ ap (λ x. assumes constraints (negate x)) (sym is) ∙ ending_assumes constraints clause ends w.0 w.1) assumed) none)
      (λ e. e)
    where
      is_false : (i : Option Literal) → AreFalseBut t i clause → IfSome i (λ l. l.variable ≢ b.variable) → (m : Literal) → has_literal clause m ≡ true → m.variable ≡ b.variable → IsFalseIn t.entries m
      is_false None f a m h same = f m h
      is_false (Some l) f a m h same = by_cases (same_literal l m)
          (λ e. absurd (a (ap (λ (x : Literal). x.variable) (are_one l m e) ∙ same)))
          (λ e. f.1 m h e)

module _ (constraints : List Constraint) (none : clashes constraints ≡ false) (c : SearchState) (e : State) (sound : IsTrail c.trail) (q : EndingRow) (f : IsFirstEnding constraints c e q) where
  b_has : has_literal q.reason.clause q.literal ≡ true
  b_has = f.row.reason.1.clause.are_false.0

  b_assumed : assumes constraints (negate q.literal) ≡ true
  b_assumed = ending_assumes constraints q.reason.clause f.row.ending q.literal b_has

  has_b : has_variable q.reason.clause q.literal.variable ≡ true
  has_b = variable_in q.reason.clause q.literal b_has

  others : (implied : Option Literal) → IfSome implied (λ l. has_variable q.reason.clause l.variable ≡ false) → IfSome implied (λ l. l.variable ≢ q.literal.variable)
  others None h = tt
  others (Some l) h = λ same. not_both (has_variable q.reason.clause q.literal.variable) has_b (ap (has_variable q.reason.clause) (sym same) ∙ h)

  module _ (implied : Option Literal) (apart : IfSome implied (λ l. has_variable q.reason.clause l.variable ≡ false)) where
    ends_without : (r : ReasonOf) → IsReason e.parities c.trail implied r → is_ending constraints r.clause ≡ true → has_variable r.clause q.literal.variable ≡ false
    ends_without r x ends = ending_has_not constraints none c.trail sound q.literal f.row.reason.1.kind.is_true b_assumed r.clause implied x.1.clause.are_false (others implied apart) ends

    pub some_differs : (r : ReasonOf) → IsReason e.parities c.trail implied r → is_ending constraints r.clause ≡ true → (v : ℕ) × (differ (has_variable r.clause v) (has_variable q.reason.clause v) ≡ true)
    some_differs r x ends = (q.literal.variable, λ i. differ (ends_without r x ends i) (has_b i))

    pub sum_goes_on : (r sum : ReasonOf) → IsReason e.parities c.trail implied r → is_ending constraints r.clause ≡ true → IsReason e.parities c.trail implied sum → HasVariablesOfSum r.clause q.reason.clause sum.clause → is_ending constraints sum.clause ≡ false
    sum_goes_on r sum x ends y has = by_cases (is_ending constraints sum.clause)
        (λ h. absurd (true≢false (sym (has q.literal.variable ∙ (λ i. differ (ends_without r x ends i) (has_b i))) ∙ ends_without sum y h)))
        (λ h. h)

module _ (constraints : List Constraint) (c : SearchState) (e : State) (sound : IsTrail c.trail) (q : EndingRow) (f : IsFirstEnding constraints c e q) where
  -- a literal above its place is of none of its variables
  pub later_is_apart : (l : Literal) (i : ℕ) → i < length c.trail.entries → literal_at c.trail i ≡ l → f.place < i → has_variable q.reason.clause l.variable ≡ false
  later_is_apart l i within at later = by_cases (has_variable q.reason.clause l.variable)
      (λ h.
      let w = with_variable q.reason.clause l.variable h in
      let j = low w.0 w.1 in
      let less = j.1 in
      let here = f.within in
      let same : j.0 ≡ i = sound.distinct j.0 i (omega (arith, less, here)) within (j.2 ∙ w.2 ∙ sym (ap (λ (x : Literal). x.variable) at)) in
      absurd (omega (arith, less, later, same)))
      (λ h. h)
    where
      low : (m : Literal) → has_literal q.reason.clause m ≡ true → (j : ℕ) × (j ≤ f.place) × ((literal_at c.trail j).variable ≡ m.variable)
      low m h = by_cases (same_literal (literal_at c.trail f.place) m)
          (λ g. (f.place, omega arith, ap (λ (x : Literal). x.variable) (are_one (literal_at c.trail f.place) m g)))
          (λ g. let d = (f.row.implied f.place f.within f.row.is).others_false m h g in let less = d.1 in (d.0, omega (arith, less), ap (λ (x : Literal). x.variable) d.2))

-- ---- the reason that a row gave
pub reason_explains : (parities : List (List Literal)) (t : TrailState) (implied : Option Literal) (r : ReasonOf) → IsReason parities t implied r → Explains parities t r
reason_explains parities t implied r (form, x) = record {
  form = form;
  written = x.written;
  numbers = x.numbers;
  sums = x.sums;
  one_of_each = x.clause.one_of_each;
  follows = x.clause.follows;
  assigned = x.assigned;
}

-- ---- the clauses of a trace
-- the clause is live under its id, and no tautology; or it has none and is this one
abbrev pub IsNamedOr : Table → List Literal → List Literal → ℕ → Type 0
IsNamedOr table clause d n = (IsId n × IsNamedBy table d n × (is_tautology d ≡ false)) ⊎ ((n ≡ 0) × (d ≡ clause))

pub live_or : (table : Table) (clause d : List Literal) (n : ℕ) → IsNamedOr table clause d n → IsLiveOr table clause d
live_or table clause d n (inl (id, by, plain)) = inl ((by.clause, (n, by.live), by.same), plain)
live_or table clause d n (inr (none, is)) = inr is

has_id : (r : Resolved) → IsId r.id → is_told r ≡ true
has_id r id = ap not (apart r.id 0 (λ e. omega (arith, id.0, e)))

has_none : (r : Resolved) → r.id ≡ 0 → is_told r ≡ false
has_none r e = ap (λ n. not (nat_eq n 0)) e

told_reversed : (rs : List Resolved) → reverse (filter is_told rs) ≡ filter is_told (reverse rs)
told_reversed [] = refl
told_reversed (r ∷ rs) = one (is_told r) ∙ ap (λ xs. xs ++ filter is_told (r ∷ [])) (told_reversed rs) ∙ sym (ap (filter is_told) (reverse-append (r ∷ []) rs) ∙ filter-append is_told (reverse rs) (r ∷ []))
  where
    one : (b : Bool) → reverse (cond b (r ∷ filter is_told rs) (filter is_told rs)) ≡ reverse (filter is_told rs) ++ cond b (r ∷ []) []
    one true = reverse-append (r ∷ []) (filter is_told rs)
    one false = sym (append-nil (reverse (filter is_told rs)))

-- the told ones have ids, where each other has none
pub told_have_ids : (rs : List Resolved) → ((r : Resolved) → Contains rs r → IsId r.id ⊎ (r.id ≡ 0)) → (r : Resolved) → Contains (filter is_told rs) r → IsId r.id
told_have_ids [] h r (i, less, is) = absurd (omega (arith, less))
told_have_ids (x ∷ rs) h r at = go (is_told x) refl at (told_have_ids rs (λ y k. h y (suc k.0, (let less = k.1 in omega (arith, less)), k.2)) r)
  where
    go : (b : Bool) → is_told x ≡ b → Contains (cond b (x ∷ filter is_told rs) (filter is_told rs)) r → (Contains (filter is_told rs) r → IsId r.id) → IsId r.id
    go true e (zero, less, is) rest = elim (h x (0, omega arith, refl)) [
      | inl id ↦ subst (λ (y : Resolved). IsId y.id) is id
      | inr none ↦ absurd (true≢false (sym e ∙ has_none x none))
    ]
    go true e (suc i, less, is) rest = rest (i, omega (arith, less), is)
    go false e k rest = rest k

module _ (table : Table) (t : TrailState) (holds : List Literal → ℕ → Type 0) (clause : List Literal) where
  all_live_or : ((d : List Literal) (n : ℕ) → holds d n → IsLiveOr table clause d) → (last : List Literal) → IsLiveOr table clause last → (rs : List Resolved) (ds : List (List Literal)) → AreAntecedents t holds rs ds
      → AllByRecursion (IsLiveOr table clause) (ds ++ last ∷ [])
  all_live_or h last k [] [] a = (k, tt)
  all_live_or h last k [] (d ∷ ds) a = absurd a
  all_live_or h last k (r ∷ rs) [] a = absurd a
  all_live_or h last k (r ∷ rs) (d ∷ ds) a = (h d r.id a.0, all_live_or h last k rs ds a.2)

  -- the ids of the told ones, and of the last clause
  told_named : ((d : List Literal) (n : ℕ) → holds d n → IsNamedOr table clause d n) → (last : List Literal) (n : ℕ) → IsNamedBy table last n → (rs : List Resolved) (ds : List (List Literal)) → AreAntecedents t holds rs ds
      → AreNamedBeside table clause (ds ++ last ∷ []) (ids_of (filter is_told rs) ++ n ∷ [])
  told_named h last n now [] [] a = named_then_beside table clause last n [] [] now (nothing_named table clause)
  told_named h last n now [] (d ∷ ds) a = absurd a
  told_named h last n now (r ∷ rs) [] a = absurd a
  told_named h last n now (r ∷ rs) (d ∷ ds) a = elim (h d r.id a.0) [
    | inl (id, by, plain) ↦
        subst (λ b. AreNamedBeside table clause (d ∷ ds ++ last ∷ []) (ids_of (cond b (r ∷ filter is_told rs) (filter is_told rs)) ++ n ∷ [])) (sym (has_id r id))
        (named_then_beside table clause d r.id (ds ++ last ∷ []) (ids_of (filter is_told rs) ++ n ∷ []) by (told_named h last n now rs ds a.2))
    | inr (none, is) ↦
        subst (λ b. AreNamedBeside table clause (d ∷ ds ++ last ∷ []) (ids_of (cond b (r ∷ filter is_told rs) (filter is_told rs)) ++ n ∷ [])) (sym (has_none r none))
        (untold_then_beside table clause d (ds ++ last ∷ []) (ids_of (filter is_told rs) ++ n ∷ []) is (told_named h last n now rs ds a.2))
  ]

  -- where each is told but the last clause
  all_named_but_last : ((d : List Literal) (n : ℕ) → holds d n → IsNamedBy table d n) → (rs : List Resolved) (ds : List (List Literal)) → AreAntecedents t holds rs ds → AreNamedBeside table clause (ds ++ clause ∷ []) (ids_of rs)
  all_named_but_last h [] [] a = untold_then_beside table clause clause [] [] refl (nothing_named table clause)
  all_named_but_last h [] (d ∷ ds) a = absurd a
  all_named_but_last h (r ∷ rs) [] a = absurd a
  all_named_but_last h (r ∷ rs) (d ∷ ds) a = named_then_beside table clause d r.id (ds ++ clause ∷ []) (ids_of rs) (h d r.id a.0) (all_named_but_last h rs ds a.2)

-- where no row's clause is untold, each clause is sourced
held_is_sourced : (c : SearchState) (rows : List (List Literal)) (d : List Literal) (n : ℕ) → IsHeldBeside c rows None d n → IsSourcedBy c rows d n
held_is_sourced c rows d n (inl (s, plain)) = s
held_is_sourced c rows d n (inr (never, none)) = absurd never

all_sourced : (c : SearchState) (rows : List (List Literal)) (t : TrailState) (rs : List Resolved) (ds : List (List Literal)) → AreAntecedents t (IsHeldBeside c rows None) rs ds → AreAntecedents t (IsSourcedBy c rows) rs ds
all_sourced c rows t [] [] a = a
all_sourced c rows t [] (d ∷ ds) a = a
all_sourced c rows t (r ∷ rs) [] a = a
all_sourced c rows t (r ∷ rs) (d ∷ ds) a = (held_is_sourced c rows d r.id a.0, a.1, all_sourced c rows t rs ds a.2)

pub follows_sourced : (c : SearchState) (rows : List (List Literal)) (conflict : List Literal) (resolved : List Resolved) (lits : List Literal) → Follows c.trail conflict (IsHeldBeside c rows None) resolved lits → Follows c.trail conflict (IsSourcedBy c rows) resolved lits
follows_sourced c rows conflict resolved lits f = (f.0, all_sourced c rows c.trail (reverse resolved) f.0 f.1, f.2)

module _ (formula : Problem) (c : SearchState) (e : State) (rows : List (List Literal)) (told_ : Option (List LogEvent)) (st : SearchStands formula c e rows told_) (level : c.trail.level ≡ 0) (resolved : List Resolved) where
  abbrev table : Table
  table = st.0.moment.tables.clauses

  pub named_or : (first : Option EndingRow) (clause : List Literal) → ((d : List Literal) → IsUntold first d → d ≡ clause) → (d : List Literal) (n : ℕ) → IsHeldBeside c rows first d n → IsNamedOr table clause d n
  named_or first clause only d n (inl (s, plain)) = inl (sourced_is_id formula c e rows told_ st d n s, sourced_is_named formula c e rows st.0 st.3 d n s, plain)
  named_or first clause only d n (inr (is, none)) = inr (none, only d is)

  id_or_none : (first : Option EndingRow) (d : List Literal) (n : ℕ) → IsHeldBeside c rows first d n → IsId n ⊎ (n ≡ 0)
  id_or_none first d n (inl (s, plain)) = inl (sourced_is_id formula c e rows told_ st d n s)
  id_or_none first d n (inr (is, none)) = inr none

  pub told_are_ids : (first : Option EndingRow) (last : List Literal) → Follows c.trail last (IsHeldBeside c rows first) resolved [] → (r : Resolved) → Contains (filter is_told resolved) r → IsId r.id
  told_are_ids first last f = told_have_ids resolved (resolved_have (IsHeldBeside c rows first) (λ n. IsId n ⊎ (n ≡ 0)) (id_or_none first) c.trail last resolved [] f)

  -- the hints beside a row whose clause is not told: the ids of the told ones, the last one's first, and of the conflict
  pub beside_hints : (first : Option EndingRow) (clause : List Literal) → ((d : List Literal) → IsUntold first d → d ≡ clause) → (last : List Literal) (n : ℕ) → IsSourcedBy c rows last n → Follows c.trail last (IsHeldBeside c rows first) resolved []
      → (hints : List ℤ) → hints ≡ hints_from (filter is_told resolved) ++ pos n ∷ [] → AreHintsBeside table clause hints
  beside_hints first clause only last n now f hints are = λ m has.
      beside_is_hinted table clause (f.0 ++ last ∷ []) (ids_of (filter is_told (reverse resolved)) ++ n ∷ []) hints
      (told_named table c.trail (IsHeldBeside c rows first) clause (named_or first clause only) last n (sourced_is_named formula c e rows st.0 st.3 last n now) (reverse resolved) f.0 f.1) (λ a. f.2 a refl)
      (are ∙ ap (λ rs. map pos (ids_of rs) ++ pos n ∷ []) (told_reversed resolved) ∙ sym (map-append pos (ids_of (filter is_told (reverse resolved))) (n ∷ []))) m has

  -- and those where the clause itself is the conflict
  pub ending_hints : (clause : List Literal) → Follows c.trail clause (IsHeldBeside c rows None) resolved [] → (hints : List ℤ) → hints ≡ hints_from resolved → AreHintsBeside table clause hints
  ending_hints clause f hints are = λ m has.
      let g = follows_sourced c rows clause resolved [] f in
      beside_is_hinted table clause (g.0 ++ clause ∷ []) (ids_of (reverse resolved)) hints
      (all_named_but_last table c.trail (IsSourcedBy c rows) clause (sourced_is_named formula c e rows st.0 st.3) (reverse resolved) g.0 g.1) (λ a. g.2 a refl) are m has

  -- beside a row whose clause is not told
  module _ (first : Option EndingRow) (last : List Literal) (f : Follows c.trail last (IsHeldBeside c rows first) resolved []) (r : ReasonOf) (only : (d : List Literal) → IsUntold first d → d ≡ r.clause) (k : IsLiveOr table r.clause last)
      (x : Explains e.parities c.trail r) (ends : is_ending formula.constraints r.clause ≡ true) (hints : List ℤ) (hinted : AreHintsBeside table r.clause hints) (n : LogEnd) (by : EndsByUnits c (length formula.constraints) (length rows) r hints n) where
    all_there : AllByRecursion (IsLiveOr table r.clause) (f.0 ++ last ∷ [])
    all_there = all_live_or table c.trail (IsHeldBeside c rows first) r.clause (λ d i held. live_or table r.clause d i (named_or first r.clause only d i held)) last k (reverse resolved) f.0 f.1

    pub beside_ends : EndsLog formula c told_ n.failed n.steps.items
    beside_ends = refuted_ends formula c e rows told_ st r x ends level (f.0 ++ last ∷ []) all_there (λ a. f.2 a refl) hints hinted n by

    pub beside_none : n.failed ≡ []
    beside_none = refuted_none formula c e rows told_ st r x ends level (f.0 ++ last ∷ []) all_there (λ a. f.2 a refl) hints hinted n by

  pub beside_ends_by : (first : Option EndingRow) (last : List Literal) → Follows c.trail last (IsHeldBeside c rows first) resolved [] → (r : ReasonOf) → ((d : List Literal) → IsUntold first d → d ≡ r.clause) → IsLiveOr table r.clause last
      → Explains e.parities c.trail r → is_ending formula.constraints r.clause ≡ true → (hints : List ℤ) → AreHintsBeside table r.clause hints → EndsByHints formula c told_ (length rows) r hints
  beside_ends_by first last f r only k x ends hints hinted = record {
    ends = beside_ends first last f r only k x ends hints hinted;
    none = beside_none first last f r only k x ends hints hinted;
  }

  -- where each is told
  pub told_refutes : (last : List Literal) (n : ℕ) → IsSourcedBy c rows last n → Follows c.trail last (IsHeldBeside c rows None) resolved [] → (hints : List ℤ) → hints ≡ hints_from resolved ++ pos n ∷ [] → IsRefutedBy formula c hints told_
  told_refutes last n k f hints are = (
    (has_ids formula c e rows told_ st).next,
    (
      st.0,
      st.2,
      record {
        parities = e.parities;
        search = st.1;
        hinted = subst (AreHintsFor table []) (sym are)
            (followed_is_hinted table c.trail (IsSourcedBy c rows) (sourced_is_named formula c e rows st.0 st.3) last n (sourced_is_named formula c e rows st.0 st.3 last n k) resolved [] (follows_sourced c rows last resolved [] f));
        free = next_is_free formula (first_row_id c.next) c.next (first_row_id c.next + length rows) st.0 st.3.log.ranged (omega arith);
        served = st.3.log.served.served;
        conflicts = st.3.counts.marked;
        few_additions = λ plain. let few = ties_add_few formula c e rows st.0 st.3 plain in omega (arith, few);
      },
    ),
  )

-- ---- what the trail makes of a clause that was told for a row
module _ (constraints : List Constraint) (c : SearchState) (e : State) (sound : IsTrail c.trail) (first : Option EndingRow) (w : IsFirst constraints c e first) (l : Literal) (i : ℕ) (late : length c.units.items ≤ i) (within : i < length c.trail.entries) (at : literal_at c.trail i ≡ l)
    (row : ℕ) (why : (entry_at c.trail.entries i).reason ≡ Row row) (n : Named) (named : named_at e row ≡ Some n) (r : ReasonOf) (x : IsReasonBy e.parities c.trail (Some l) n.form r) (a : IsAntecedent c.trail l r.clause) where
  goes : RowGoesOn constraints c e i → is_ending constraints r.clause ≡ false
  goes g = g row why n named r (subst (λ m. IsReasonBy e.parities c.trail (Some m) n.form r) (sym at) x)

  -- where the row's clause would end the log, the first such row is an earlier one
  earlier : (o : Option EndingRow) → IsFirst constraints c e o → (IsLiteralOf o l → ⊥) → is_ending constraints r.clause ≡ true → (q : EndingRow) × (o ≡ Some q) × ((f : IsFirstEnding constraints c e q) × (f.place < i))
  earlier None g later ends = not_both (is_ending constraints r.clause) ends (goes (g i late within))
  earlier (Some q) f later ends = (
    q,
    refl,
    (
      f,
      by_cases (nat_lt f.place i)
          (λ y. ltb-true f.place i y)
          (λ y. by_cases (nat_lt i f.place)
          (λ z. not_both (is_ending constraints r.clause) ends (goes (f.before i late (ltb-true i f.place z))))
          (λ z.
          let low = ltb-false f.place i y in
          let high = ltb-false i f.place z in
          let same : f.place ≡ i = omega (arith, low, high) in
          absurd (later (sym f.row.is ∙ ap (literal_at c.trail) same ∙ at)))),
    ),
  )

  pub row_beside : (IsLiteralOf first l → ⊥) → is_ending constraints r.clause ≡ true → HasRowBeside (Some l) first
  row_beside later ends =
      let q = earlier first w later ends in
      subst (HasRowBeside (Some l)) (sym q.1) (apart_from q.0 q.2.0 q.2.1)
    where
      apart_from : (q : EndingRow) (f : IsFirstEnding constraints c e q) → f.place < i → HasRowBeside (Some l) (Some q)
      apart_from q f less = later_is_apart constraints c e sound q f l i within at less

  -- a literal with one of these variables is assigned before
  abbrev pub IsBefore : Literal → Type 0
  IsBefore m = (j : ℕ) × (j < i) × ((literal_at c.trail j).variable ≡ m.variable)

  in_row : (m : Literal) → has_literal r.clause m ≡ true → l.variable ≢ m.variable → IsBefore m
  in_row m h apart = by_cases (same_literal (literal_at c.trail i) m)
      (λ g. absurd (apart (ap (λ (y : Literal). y.variable) (sym at ∙ are_one (literal_at c.trail i) m g))))
      (λ g. let d = (a i within at).others_false m h g in (d.0, d.1, ap (λ (y : Literal). y.variable) d.2))

  in_first : (q : EndingRow) (f : IsFirstEnding constraints c e q) → f.place < i → (m : Literal) → has_literal q.reason.clause m ≡ true → IsBefore m
  in_first q f less m h = by_cases (same_literal (literal_at c.trail f.place) m)
      (λ g. (f.place, less, ap (λ (y : Literal). y.variable) (are_one (literal_at c.trail f.place) m g)))
      (λ g. let d = (f.row.implied f.place f.within f.row.is).others_false m h g in let low = d.1 in (d.0, omega (arith, low, less), ap (λ (y : Literal). y.variable) d.2))

  module _ (later : IsLiteralOf first l → ⊥) (told : ReasonOf) (y : IsReason e.parities c.trail (Some l) told) (vars : HasVariablesOf constraints r.clause first told.clause) where
    before : (m : Literal) → has_literal told.clause m ≡ true → l.variable ≢ m.variable → IsBefore m
    before m h apart = elim (vars m.variable (variable_in told.clause m h)) [
      | inl g ↦ let k = with_variable r.clause m.variable g in moved k.0 k.2 (in_row k.0 k.1 (λ same. apart (same ∙ k.2)))
      | inr g ↦ let q = earlier first w later g.0 in in_other q.0 q.2.0 q.2.1 (subst (λ o. HasVariableOf o m.variable) q.1 g.1)
    ]
      where
        moved : (k : Literal) → k.variable ≡ m.variable → IsBefore k → IsBefore m
        moved k same b = (b.0, b.1, b.2 ∙ same)

        in_other : (q : EndingRow) (f : IsFirstEnding constraints c e q) → f.place < i → has_variable q.reason.clause m.variable ≡ true → IsBefore m
        in_other q f less has = let k = with_variable q.reason.clause m.variable has in moved k.0 k.2 (in_first q f less k.0 k.1)

    pub told_is_antecedent : IsAntecedent c.trail l told.clause
    told_is_antecedent place less same = record {
      has_it = ap (has_literal told.clause) same ∙ y.1.clause.are_false.0;
      others_false = λ m has apart. others m has (subst (λ z. same_literal z m ≡ false) same apart);
    }
      where
        here : place ≡ i
        here = sound.distinct place i less within (ap (λ (z : Literal). z.variable) (same ∙ sym at))

        others : (m : Literal) → has_literal told.clause m ≡ true → same_literal l m ≡ false → IsFalseBefore c.trail.entries place m
        others m has apart =
            let k = y.1.clause.are_false.1 m has apart in
            let j = before m has (λ z. one_sign y.0 told.clause y.1.clause.one_of_each l m y.1.clause.are_false.0 has z apart) in
            let low = j.1 in
            let one : k.0 ≡ j.0 = sound.distinct k.0 j.0 k.1.0 (omega (arith, low, within)) (ap (λ (z : Literal). z.variable) k.1.1 ∙ sym j.2) in
            (k.0, omega (arith, one, low, here), k.1.1)

-- ---- more clauses are held
pub held_grows : (c : SearchState) (old new : List (List Literal)) (first : Option EndingRow) → AreHeld (IsSourcedBy c old) (IsSourcedBy c new) → AreHeld (IsHeldBeside c old first) (IsHeldBeside c new first)
held_grows c old new first grows clause n (inl (s, plain)) = inl (grows clause n s, plain)
held_grows c old new first grows clause n (inr is) = inr is

-- ---- the row that implied the literal at a place
module _ (c : SearchState) (e : State) (reasons : HaveReasons c e) (i : ℕ) (late : length c.units.items ≤ i) (within : i < length c.trail.entries) (l : Literal) (at : literal_at c.trail i ≡ l) (row : ℕ) (why : (entry_at c.trail.entries i).reason ≡ Row row) where
  abbrev pub row_implied : IsReasonOf e c.trail.entries l row
  row_implied = (i, (within, at), subst (HasReasonOf c.arena c.trail.entries e i) why (reasons i late within))

  -- the reason that the engine gives for it
  module _ (r : ReasonOf) (written : OfNamed e row (λ n. IsWritten n.form r.parity)) (numbers : AreRising 1 (length e.parities) r.sources) (sums : OfNamed e row (λ n. n.form ≡ sum_of_numbers e.parities r.sources))
      (clause : OfNamed e row (λ n. IsReasonClause c.trail (Some l) n.form r.parity r.clause)) where
    abbrev pub the_row : Named
    the_row = row_implied.2.named

    pub is_the_row : named_at e row ≡ Some the_row
    is_the_row = row_implied.2.is

    pub row_reason : IsReasonBy e.parities c.trail (Some l) the_row.form r
    row_reason = record {
      written = written the_row is_the_row;
      numbers = numbers;
      sums = sums the_row is_the_row;
      assigned = all_assigned c.trail e l row row_implied the_row is_the_row;
      kind = gives_literal c.trail e l row row_implied the_row is_the_row;
      clause = clause the_row is_the_row;
    }

    -- each reason of the row has these literals, so none would end the log where this one would not
    pub row_goes_on : (constraints : List Constraint) (sound : IsTrail c.trail) → is_ending constraints r.clause ≡ false → RowGoesOn constraints c e i
    row_goes_on constraints sound goes other is n named s x = by_cases (is_ending constraints s.clause)
        (λ h. not_both (is_ending constraints r.clause) (ending_same h) goes)
        (λ h. h)
      where
        same_row : row ≡ other
        same_row = row_is row other (sym why ∙ is)

        form_same : n.form ≡ the_row.form
        form_same = ap (λ (m : Named). m.form) (same_Some n the_row (sym named ∙ ap (named_at e) (sym same_row) ∙ is_the_row))

        sc : IsReasonClause c.trail (Some l) the_row.form s.parity s.clause
        sc = subst (λ f. IsReasonClause c.trail (Some l) f s.parity s.clause) form_same (subst (λ m. IsReasonClause c.trail (Some m) n.form s.parity s.clause) at x.clause)

        has_too : (m : Literal) → has_literal r.clause m ≡ true → has_literal s.clause m ≡ true
        has_too m h =
            let k = with_variable s.clause m.variable (clause_in the_row.form s.clause sc.one_of_each m.variable (in_form the_row.form r.clause row_reason.clause.one_of_each m h)) in
            subst (λ y. has_literal s.clause y ≡ true) (alike k.0 k.1 k.2) k.1
          where
            alike : (k : Literal) → has_literal s.clause k ≡ true → k.variable ≡ m.variable → k ≡ m
            alike k hk same = by_cases (same_literal l k)
                (λ a. by_cases (same_literal l m)
                (λ b. sym (are_one l k a) ∙ are_one l m b)
                (λ b. absurd (one_sign the_row.form r.clause row_reason.clause.one_of_each l m row_reason.clause.are_false.0 h (ap (λ (y : Literal). y.variable) (are_one l k a) ∙ same) b)))
                (λ a. by_cases (same_literal l m)
                (λ b. absurd (one_sign the_row.form s.clause sc.one_of_each l k sc.are_false.0 hk (ap (λ (y : Literal). y.variable) (are_one l m b) ∙ sym same) a))
                (λ b. same_false c.trail sound k m (sc.are_false.1 k hk a) (row_reason.clause.are_false.1 m h b) same))

        ending_same : is_ending constraints s.clause ≡ true → is_ending constraints r.clause ≡ true
        ending_same h = all_by (λ m. assumes constraints (negate m)) r.clause (λ m k. ending_assumes constraints s.clause h m (has_too m k))

-- the literal of the place is in each clause of the row
pub literal_goes_on : (constraints : List Constraint) (c : SearchState) (e : State) (i : ℕ) → assumes constraints (negate (literal_at c.trail i)) ≡ false → RowGoesOn constraints c e i
literal_goes_on constraints c e i free row is n named r x = not_ending constraints r.clause (literal_at c.trail i) x.clause.are_false.0 free

-- what holds of the places before one and of that place holds of those before the next
pub one_more_goes_on : (constraints : List Constraint) (c : SearchState) (e : State) (i : ℕ) → NoneEnds constraints c e i → RowGoesOn constraints c e i → NoneEnds constraints c e (i + 1)
one_more_goes_on constraints c e i before here j late less = by_cases (nat_lt j i)
    (λ h. before j late (ltb-true j i h))
    (λ h. subst (RowGoesOn constraints c e) (let high = ltb-false j i h in let same : i ≡ j = omega (arith, high, less) in same) here)

-- the clause of a conflict is held
pub conflict_is_held : (c : SearchState) (rows : List (List Literal)) (first : Option EndingRow) (lits : List Literal) (n : ℕ) → IsTrail c.trail → IsConflictClause c rows lits n → IsHeldBeside c rows first lits n
conflict_is_held c rows first lits n sound k = inl (k.sourced, false_is_plain c.trail sound lits k.all_false)

-- it is so afterwards, under an id: so it was told
pub still_sourced : (c : SearchState) (rows : List (List Literal)) (first : Option EndingRow) (lits : List Literal) (n : ℕ) → IsId n → IsHeldBeside c rows first lits n → IsSourcedBy c rows lits n × (is_tautology lits ≡ false)
still_sourced c rows first lits n id (inl h) = h
still_sourced c rows first lits n id (inr (is, none)) = absurd (omega (arith, id.0, none))

-- ---- the clause of a row that is not met, where it was told
pub told_conflict : (c : SearchState) (rows : List (List Literal)) (lits : List Literal) (n : ℕ) (parities : List (List Literal)) (r : ReasonOf) → IsReason parities c.trail None r → lits ≡ r.clause → rows ≡ r.clause ∷ [] → n ≡ first_row_id c.next → IsConflictClause c rows lits n
told_conflict c rows lits n parities r x are told at = record {
  sourced = inr (inr (0, (let long = ap length told in omega (arith, long)), are ∙ sym (ap (λ xs. get_or xs 0 []) told), omega (arith, at)));
  all_false = λ m h. x.1.clause.are_false m (ap (λ ls. has_literal ls m) (sym are) ∙ h);
}

module _ (formula : Problem) (c : SearchState) (e : State) (told_ : Option (List LogEvent)) (st : SearchStands formula c e [] told_) (row : ℕ) (clash : IsClash e row) (r : ReasonOf) (written : OfNamed e row (λ n. IsWritten n.form r.parity)) (numbers : AreRising 1 (length e.parities) r.sources)
    (sums : OfNamed e row (λ n. n.form ≡ sum_of_numbers e.parities r.sources)) (clause : OfNamed e row (λ n. IsReasonClause c.trail None n.form r.parity r.clause)) where
  pub clash_reason : IsReason e.parities c.trail None r
  clash_reason =
      let a = against formula c e told_ st row None clash in (
        a.what.form,
        record {
          written = written a.what a.is;
          numbers = numbers;
          sums = sums a.what a.is;
          assigned = a.assigned a.what a.is;
          kind = a.kind a.what a.is;
          clause = clause a.what a.is;
        },
      )

pub row_is_beside : (first : Option EndingRow) → IsSome first → HasRowBeside None first
row_is_beside None h = absurd (true≢false (sym h))
row_is_beside (Some q) h = tt

-- ---- the clause of the literal that the first row implied
pub untold_is_antecedent : (constraints : List Constraint) (c : SearchState) (e : State) (first : Option EndingRow) → IsFirst constraints c e first → (l : Literal) (clause : List Literal) → IsLiteralOf first l → IsUntold first clause → IsAntecedent c.trail l clause
untold_is_antecedent constraints c e None w l clause at is = absurd at
untold_is_antecedent constraints c e (Some q) f l clause at is = subst (IsAntecedent c.trail l) (sym is) (subst (λ m. IsAntecedent c.trail m q.reason.clause) at f.row.implied)

-- ---- one clause of a row more
module _ (c : SearchState) (old new : List (List Literal)) (clause : List Literal) (told : new ≡ old ++ clause ∷ []) where
  abbrev one : Result (List Literal) ℕ
  one = Ok clause

  pub told_is_sourced : (n : ℕ) → n ≡ first_row_id c.next + length old → IsSourcedBy c new clause n
  told_is_sourced n at = last_is_sourced c old new (λ (x : List Literal). x) (λ (x : List Literal). n) one told at

  pub told_grows : AreHeld (IsSourcedBy c old) (IsSourcedBy c new)
  told_grows = sourced_grows c old new (λ (x : List Literal). x) one told tt

pub none_of : (o : Option EndingRow) → ((q : EndingRow) → o ≡ Some q → ⊥) → o ≡ None
none_of None h = refl
none_of (Some q) h = absurd (h q refl)

-- ---- what the sum's call answers
module _ (constraints : List Constraint) (none : clashes constraints ≡ false) (c : SearchState) (e : State) (sound : IsTrail c.trail) (q : EndingRow) (f : IsFirstEnding constraints c e q) (implied : Option Literal)
    (apart : IfSome implied (λ l. has_variable q.reason.clause l.variable ≡ false)) (r : ReasonOf) (x : IsReason e.parities c.trail implied r) (ends : is_ending constraints r.clause ≡ true) where
  pub sum_goes_on_ok : {E : Type 0} (s : Result ReasonOf E) → IfOk s (IsReason e.parities c.trail implied) → IfOk s (λ sum. HasVariablesOfSum r.clause q.reason.clause sum.clause) → IfOk s (λ sum. is_ending constraints sum.clause ≡ false)
  sum_goes_on_ok (Ok sum) y has = sum_goes_on constraints none c e sound q f implied apart r sum x ends y has
  sum_goes_on_ok (Err fault) y has = tt

of_either : (a b : Bool) → differ a b ≡ true → (a ≡ true) ⊎ (b ≡ true)
of_either true b h = inl refl
of_either false b h = inr h

pub sum_variables_ok : (constraints : List Constraint) (clause : List Literal) (first : Option EndingRow) (q : EndingRow) → first ≡ Some q → is_ending constraints clause ≡ true → {E : Type 0} (s : Result ReasonOf E)
    → IfOk s (λ sum. HasVariablesOfSum clause q.reason.clause sum.clause) → IfOk s (λ sum. HasVariablesOf constraints clause first sum.clause)
sum_variables_ok constraints clause first q is ends (Ok sum) has = λ v h. elim (of_either (has_variable clause v) (has_variable q.reason.clause v) (sym (has v) ∙ h)) [
  | inl a ↦ inl a
  | inr b ↦ inr (ends, subst (λ o. HasVariableOf o v) (sym is) b)
]
sum_variables_ok constraints clause first q is ends (Err fault) has = tt
