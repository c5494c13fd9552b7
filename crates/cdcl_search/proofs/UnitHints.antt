-- The unit clauses that make literals of a clause false, and then that clause, are a right chain for what is left of it.
use Rattle.std.proofs.Common.{◌≡◌, ◌≢◌, refl, sym, ap, ◌∙◌, subst, ℕ, zero, suc, ◌+◌, ◌<◌, ℤ, Bool, true, false, not, List, [], ◌∷◌, ◌++◌, length, take, get_or, Option, Some, None, unwrap_or, is_some, Contains, ◌⊎◌, inl, inr, arith, true≢false}
use Rattle.std.specs.List.{AllByRecursion, cons_option}
use Rattle.std.specs.Prelude.{slice_index_or}
use Rattle.std.proofs.lemmas.Bool.{and_parts}
use Rattle.std.proofs.lemmas.Option.{same_Some, none-some}
use Rattle.std.proofs.lemmas.List.Elements.{Contains-append_left, Contains-append_right}
use Rattle.std.proofs.Math.Seq.{take-suc}
use Rattle.cx_base.specs.Literals.{Literal, negate, same_literal}
use Rattle.cx_base.proofs.LiteralLaws.{negate-negate, same_literal-itself}
use Rattle.cx_base.proofs.Elements.{in_head}
use Rattle.cx_semantics.specs.Chain.{has_literal}
use Rattle.cx_semantics.specs.LogRules.{AreLive}
use Rattle.cx_semantics.specs.Tables.{Table, get, named}
use Rattle.cx_semantics.proofs.Closure.{has_by_inside}
use Rattle.cx_semantics.proofs.Members.{has_at_head, has_behind, has_split, has_pushed}
use Rattle.cx_trail.specs.Sequence.{TrailState, IsTrail, IsTrueIn, Means, StandsAt, entry_at}
use Rattle.cx_trail.specs.declared.entry.Truth.{Truth}
use Rattle.cx_trail.specs.declared.entry.Truth.TheVariants.{True, False, Open}
use Rattle.conflict_learn.specs.Learning.{Serves}
use Rattle.conflict_learn.proofs.ChainOfResolutions.{negated_in, negations_by, conflict_serves, resolved_serves, served_is_chain}
use Rattle.search_steps.specs.Hints.{AreHintsFor}
use Rattle.search_steps.specs.Trail.{Entry}
use Rattle.search_steps.proofs.Sets.{not_both}
use Rattle.cdcl_search.specs.declared.state.SearchState.{SearchState}
use Rattle.cdcl_search.specs.Ties.{AreUnits, IsNamedBy}
use Rattle.cdcl_search.specs.Units.{AreUnitsAnd, HaveUnitsAgainst, IsFalseByUnit}
use Rattle.cdcl_search.proofs.LowIds.{index_is}

-- ---- literals that are not false
not_own : (b : Bool) → b ≡ not b → ⊥
not_own true e = true≢false e
not_own false e = true≢false (sym e)

module _ (t : TrailState) (sound : IsTrail t) (l : Literal) where
  -- a literal is at one place alone
  pub one_place : (place : ℕ) → place < length t.entries → (entry_at t.entries place).literal ≡ negate l → (i : ℕ) → StandsAt t.entries (negate l) i → i ≡ place
  one_place place less at i stands = sound.distinct i place stands.0 less (ap (λ (m : Literal). m.variable) (stands.1 ∙ sym at))

  nowhere_true : IsTrueIn t.entries l → (i : ℕ) → StandsAt t.entries (negate l) i → ⊥
  nowhere_true at i stands =
      let one : i ≡ at.0 = sound.distinct i at.0 stands.0 at.1.0 (ap (λ (m : Literal). m.variable) (stands.1 ∙ sym (ap negate at.1.1))) in
      not_own l.negative (ap (λ (m : Literal). m.negative) (sym at.1.1 ∙ sym (ap (λ p. (entry_at t.entries p).literal) one) ∙ stands.1))

  -- where the literal is not false, its negation is nowhere
  pub nowhere_by : (truth : Truth) → truth ≢ False → Means t.entries l truth → (i : ℕ) → StandsAt t.entries (negate l) i → ⊥
  nowhere_by True other means i stands = nowhere_true means i stands
  nowhere_by False other means i stands = other refl
  nowhere_by Open other means i stands = means i stands.0 (ap (λ (m : Literal). m.variable) stands.1)

-- ---- an id at a place
some_by : (o : Option ℕ) (x : ℕ) → ((d : ℕ) → unwrap_or o d ≡ x) → o ≡ Some x
some_by (Some y) x h = ap Some (h 0)
some_by None x h = let more = h (x + 1) in absurd (omega (arith, more))

pub read_there : (xs ids : List ℕ) (place i : ℕ) (o : Option ℕ) → xs ≡ ids → i ≡ place → i < length ids → ((d : ℕ) → unwrap_or o d ≡ slice_index_or xs place d) → o ≡ Some (get_or ids i 0)
read_there xs ids place i o same one less h = some_by o (get_or ids i 0) (λ d. h d ∙ ap (λ ys. slice_index_or ys place d) same ∙ ap (λ k. slice_index_or ids k d) (sym one) ∙ index_is ids i d 0 less)

-- ---- the next literal of a clause
module _ (c : SearchState) (lits : List Literal) (i : ℕ) (l : Literal) (less : i < length lits) (at : l ≡ get_or lits i l) (found : Option ℕ)
    (finds : (j : ℕ) → j < length c.units.items → StandsAt c.trail.entries (negate l) j → found ≡ Some (get_or c.units.items j 0)) where
  one_longer : take (i + 1) lits ≡ take i lits ++ l ∷ []
  one_longer = ap (λ n. take n lits) (let e : i + 1 ≡ suc i = omega arith in e) ∙ take-suc lits i l less ∙ ap (λ y. take i lits ++ y ∷ []) (sym at)

  in_longer : (m : Literal) → has_literal (take (i + 1) lits) m ≡ true → (has_literal (take i lits) m ≡ true) ⊎ (m ≡ l)
  in_longer m has = has_pushed (take i lits) l m (subst (λ ls. has_literal ls m ≡ true) one_longer has)

  pub against_one_more : (units : List ℕ) (unit : ℕ) → found ≡ Some unit → HaveUnitsAgainst c (take i lits) units → HaveUnitsAgainst c (take (i + 1) lits) (units ++ unit ∷ [])
  against_one_more units unit is before m has j low stands = elim (in_longer m has) [
    | inl here ↦ Contains-append_left units (unit ∷ []) (get_or c.units.items j 0) (before m here j low stands)
    | inr it ↦ Contains-append_right units (unit ∷ []) (get_or c.units.items j 0) (subst (Contains (unit ∷ [])) (same_Some unit (get_or c.units.items j 0) (sym is ∙ finds j low (subst (λ x. StandsAt c.trail.entries (negate x) j) it stands))) (in_head unit []))
  ]

  pub against_none_more : (units : List ℕ) → found ≡ None → HaveUnitsAgainst c (take i lits) units → HaveUnitsAgainst c (take (i + 1) lits) units
  against_none_more units is before m has j low stands = elim (in_longer m has) [
    | inl here ↦ before m here j low stands
    | inr it ↦ absurd (none-some (get_or c.units.items j 0) (sym is ∙ finds j low (subst (λ x. StandsAt c.trail.entries (negate x) j) it stands)))
  ]

-- ---- unit clauses, and then a clause
module _ (table : Table) where
  abbrev IsUnitId : ℕ → Type 0
  IsUnitId n = (m : Literal) × IsNamedBy table (m ∷ []) n

  -- the literal is in the target, or a unit clause of one of these ids makes it false
  abbrev IsCovered : List Literal → List ℕ → Literal → Type 0
  IsCovered target ids m = (has_literal target m ≡ true) ⊎ ((n : ℕ) × Contains ids n × IsNamedBy table (negate m ∷ []) n)

  only_one : (m x : Literal) → has_literal (m ∷ []) x ≡ true → x ≡ m
  only_one m x h = elim (has_split m [] x h) [ inl e ↦ e | inr none ↦ absurd (true≢false (sym none)) ]

  same_unit : (m x : Literal) (n j : ℕ) → n ≡ j → IsNamedBy table (m ∷ []) n → IsNamedBy table (x ∷ []) j → m ≡ x
  same_unit m x n j is a b =
      let one : a.clause ≡ b.clause = same_Some a.clause b.clause (sym a.live ∙ ap (get table) is ∙ b.live) in
      let in_a = has_by_inside (m ∷ []) a.clause m (and_parts _ _ a.same).0 (has_at_head m []) in
      only_one x m (has_by_inside b.clause (x ∷ []) m (and_parts _ _ b.same).1 (ap (λ lits. has_literal lits m) (sym one) ∙ in_a))

  in_target : (target : List Literal) (m : Literal) → IsCovered target [] m → has_literal target m ≡ true
  in_target target m (inl e) = e
  in_target target m (inr (n, (k, less, is), named_)) = absurd (omega (arith, less))

  covered_next : (target : List Literal) (n : ℕ) (ids : List ℕ) (m x : Literal) → IsNamedBy table (m ∷ []) n → IsCovered target (n ∷ ids) x → IsCovered (negate m ∷ target) ids x
  covered_next target n ids m x a (inl e) = inl (has_behind (negate m) target x e)
  covered_next target n ids m x a (inr (j, (zero, less, is), b)) =
      let it : m ≡ negate x = same_unit m (negate x) n j is a b in
      inl (ap (λ y. has_literal (negate y ∷ target) x) it ∙ ap (λ y. has_literal (y ∷ target) x) (negate-negate x) ∙ has_at_head x target)
  covered_next target n ids m x a (inr (j, (suc k, less, is), b)) = inr (j, (k, omega (arith, less), is), b)

  -- under each set that negates the target the chain is right
  units_serve : (lits : List Literal) (id : ℕ) → IsNamedBy table lits id → (ids : List ℕ) → AllByRecursion IsUnitId ids → (target : List Literal) → ((m : Literal) → has_literal lits m ≡ true → IsCovered target ids m)
      → AreLive table (ids ++ id ∷ []) × Serves target (named table (ids ++ id ∷ []))
  units_serve lits id by [] are target covers = (
    (ap is_some by.live, tt),
    subst (Serves target) (sym (ap (λ o. cons_option o []) by.live)) (λ assumed h. conflict_serves by.clause assumed (negations_by by.clause assumed (λ m k.
        negated_in target assumed m h (in_target target m (covers m (has_by_inside by.clause lits m (and_parts _ _ by.same).1 k)))))),
  )
  units_serve lits id by (n ∷ ids) (a, are) target covers =
      let m = a.0 in
      let rest = units_serve lits id by ids are (negate m ∷ target) (λ x k. covered_next target n ids m x a.1 (covers x k)) in (
        (ap is_some a.1.live, rest.0),
        subst (Serves target) (sym (ap (λ o. cons_option o (named table (ids ++ id ∷ []))) a.1.live)) (resolved_serves (negate m ∷ target) a.1.clause m target (named table (ids ++ id ∷ []))
            (record {
              from_clause = λ x has apart.
                  let it = only_one m x (has_by_inside a.1.clause (m ∷ []) x (and_parts _ _ a.1.same).1 has) in
                  absurd (not_both (same_literal m x) (ap (same_literal m) it ∙ same_literal-itself m) apart);
              from_old = λ x has apart. elim (has_split (negate m) target x has) [
                | inl e ↦ absurd (not_both (same_literal (negate m) x) (ap (same_literal (negate m)) e ∙ same_literal-itself (negate m)) apart)
                | inr g ↦ g
              ];
            }) rest.1),
      )

-- ---- the hints of a search
module _ (table : Table) (next : ℕ) (c : SearchState) (es : List Entry) (u : AreUnits table next c.trail es c.units.items) where
  unit_at : (n : ℕ) → Contains c.units.items n → IsUnitId table n
  unit_at n (k, less, is) = ((entry_at c.trail.entries k).literal, subst (IsNamedBy table _) (is_there c.units.items k n less is) (u.named k less))
    where
      is_there : (xs : List ℕ) (k n : ℕ) → k < length xs → get_or xs k n ≡ n → get_or xs k 0 ≡ n
      is_there [] k n less is = absurd (omega (arith, less))
      is_there (x ∷ xs) zero n less is = is
      is_there (x ∷ xs) (suc k) n less is = is_there xs k n (omega (arith, less)) is

  all_units : (ids : List ℕ) → AllByRecursion (Contains c.units.items) ids → AllByRecursion (IsUnitId table) ids
  all_units [] h = tt
  all_units (n ∷ ids) h = (unit_at n h.0, all_units ids h.1)

  -- where unit clauses make all literals of the clause false but those of the target
  pub unit_hints_are_right : (lits : List Literal) (id : ℕ) (hints : List ℤ) → IsNamedBy table lits id → AreUnitsAnd c lits id hints → (target : List Literal)
      → ((m : Literal) → has_literal lits m ≡ true → (has_literal target m ≡ true) ⊎ IsFalseByUnit c m) → AreHintsFor table target hints
  unit_hints_are_right lits id hints by are target all_false =
      let r = units_serve table lits id by are.units (all_units are.units are.held) target (λ m has. covered m has (all_false m has)) in
      record { ids = are.units ++ id ∷ []; are = are.spelled; live = r.0; chain = served_is_chain target (named table (are.units ++ id ∷ [])) r.1 }
    where
      covered : (m : Literal) → has_literal lits m ≡ true → (has_literal target m ≡ true) ⊎ IsFalseByUnit c m → IsCovered table target are.units m
      covered m has (inl e) = inl e
      covered m has (inr (i, less, at)) = inr (get_or c.units.items i 0, are.against m has i less at, subst (λ l. IsNamedBy table (l ∷ []) (get_or c.units.items i 0)) at.1 (u.named i less))
