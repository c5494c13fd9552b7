-- What implied the next literal of level 0, and what telling its unit clause leaves.
use Rattle.std.proofs.Common.{◌≡◌, refl, sym, ap, ◌∙◌, subst, ℕ, zero, suc, ◌+◌, ◌<◌, ◌≤◌, ℤ, true, false, List, [], ◌∷◌, ◌++◌, length, take, get_or, Option, Some, None, inl, inr, arith, length-take}
use Rattle.std.specs.Prelude.{slice_index_or}
use Rattle.std.specs.List.{All}
use Rattle.std.specs.Global.{Vec}
use Rattle.std.proofs.lemmas.Bool.{and_parts}
use Rattle.cx_base.specs.Literals.{Literal, negate, same_literal}
use Rattle.cx_base.specs.Assumptions.{assumes}
use Rattle.cx_base.specs.Problem.{Problem}
use Rattle.cx_base.specs.declared.constraint.Constraint.{Constraint}
use Rattle.cx_base.specs.declared.steps.LogStep.{LogStep}
use Rattle.cx_base.specs.declared.steps.LogStep.TheVariants.{ClauseWithHints}
use Rattle.cx_base.specs.declared.steps.LogEvent.{LogEvent}
use Rattle.cx_base.specs.declared.steps.LogEvent.TheVariants.{Step}
use Rattle.cx_semantics.specs.Chain.{has_literal, is_inside, same_literals}
use Rattle.cx_base.specs.Integers.{integers_of, literals}
use Rattle.cx_base.proofs.LiteralLaws.{are_one}
use Rattle.cx_semantics.proofs.Closure.{has_by_inside}
use Rattle.cx_semantics.proofs.Members.{has_at_head}
use Rattle.cx_trail.specs.Sequence.{TrailState, IsTrail, IsTrueIn, entry_at}
use Rattle.conflict_learn.specs.Learning.{IsAntecedent}
use Rattle.conflict_learn.proofs.ChainOfResolutions.{by_cases}
use Rattle.parity_engine.specs.State.{State}
use Rattle.search_policy.specs.Assuming.{Contradicts}
use Rattle.search_steps.specs.Hints.{AreHintsFor}
use Rattle.search_steps.specs.Holding.{AreTold}
use Rattle.search_steps.specs.Search.{Search, IsSearchIn}
use Rattle.search_steps.specs.Tied.{IsLiveSet, ForcesOn}
use Rattle.search_steps.proofs.StartLaws.{literals_are}
use Rattle.cdcl_search.specs.declared.state.SearchState.{SearchState}
use Rattle.cdcl_search.specs.Tells.{IsLeft, with_events}
use Rattle.cdcl_search.specs.Ties.{SearchStands, SearchStandsFrom, IsNamedBy}
use Rattle.cdcl_search.specs.Units.{IsNextUnit, HasOther, AreUnitsAnd}
use Rattle.cdcl_search.proofs.RowReasons.{entry_taken}
use Rattle.cdcl_search.proofs.RowSteps.{is_left}
use Rattle.cdcl_search.proofs.UnitTies.{unit_is_search, unit_ties, after_unit, with_unit, l_within}
use Rattle.cdcl_search.proofs.SourceLaws.{sourced_is_named}
use Rattle.cdcl_search.proofs.UnitHints.{unit_hints_are_right}
use Rattle.cdcl_search.specs.Finds.{PropagationFinds, HasAll}
use Rattle.cdcl_search.specs.declared.propagation.Found.{Found}
use Rattle.cdcl_search.specs.declared.propagation.Found.TheVariants as found

-- ---- the clause that implied a literal forces it there
pub implied_forces : (t : TrailState) (l : Literal) (lits clause : List Literal) (place : ℕ) → place < length t.entries → (entry_at t.entries place).literal ≡ l → IsAntecedent t l lits → same_literals lits clause ≡ true
    → ForcesOn (take place t.entries) clause l
implied_forces t l lits clause place less here implied same = record {
  has_it = has_by_inside lits clause l inside.0 (ap (has_literal lits) (sym here) ∙ by.has_it);
  others_false = λ m has apart.
      let f = by.others_false m (has_by_inside clause lits m inside.1 has) (ap (λ x. same_literal x m) here ∙ apart) in
      let low = f.1 in
      let many = length-take place t.entries in
      let long : f.0 < length (take place t.entries) = omega (arith, many, low, less) in
      (f.0, (long, ap (λ x. x.literal) (entry_taken t.entries place f.0 long) ∙ f.2));
}
  where
    by : Rattle.conflict_learn.specs.Learning.Implied t place lits
    by = implied place less here

    inside : (is_inside lits clause ≡ true) × (is_inside clause lits ≡ true)
    inside = and_parts (is_inside lits clause) (is_inside clause lits) same

all_have : (P : Literal → Type 0) (lits : List Literal) → ((m : Literal) → has_literal lits m ≡ true → P m) → All P lits
all_have P lits h k d less = h (slice_index_or lits k d) (Rattle.search_steps.proofs.Stored.has_of lits (slice_index_or lits k d) (k, less, there lits k less))
  where
    there : (xs : List Literal) (i : ℕ) → i < length xs → get_or xs i (slice_index_or xs i d) ≡ slice_index_or xs i d
    there [] i less = absurd (omega (arith, less))
    there (x ∷ xs) zero less = refl
    there (x ∷ xs) (suc i) less = there xs i (omega (arith, less))

module _ (t : TrailState) (sound : IsTrail t) where
  true_is_low : (m : Literal) → IsTrueIn t.entries m → m.variable ≤ t.variables
  true_is_low m (i, (less, at)) = let high = sound.high i less in let same = ap (λ x. x.variable) at in omega (arith, high, same)

  pub false_are_low : (lits : List Literal) → ((m : Literal) → has_literal lits m ≡ true → IsTrueIn t.entries (negate m)) → All (λ m. m.variable ≤ t.variables) lits
  false_are_low lits f = all_have (λ m. m.variable ≤ t.variables) lits (λ m has. true_is_low (negate m) (f m has))

  pub implying_are_low : (l : Literal) (lits : List Literal) (place : ℕ) → place < length t.entries → (entry_at t.entries place).literal ≡ l → IsAntecedent t l lits → All (λ m. m.variable ≤ t.variables) lits
  implying_are_low l lits place less here implied = all_have (λ m. m.variable ≤ t.variables) lits (λ m has.
      by_cases (same_literal (entry_at t.entries place).literal m)
      (λ same. true_is_low m (place, (less, Rattle.cx_base.proofs.LiteralLaws.are_one (entry_at t.entries place).literal m same)))
      (λ apart.
      let f = (implied place less here).others_false m has apart in
      let low = f.1 in
      true_is_low (negate m) (f.0, (omega (arith, low, less), f.2))))

-- ---- the unit clause is told
module _ (formula : Problem) (c : SearchState) (e : State) (rows : List (List Literal)) (old : Option (List LogEvent)) (st : SearchStands formula c e rows old) where
  module _ (level : c.trail.level ≡ 0) (l : Literal) (lits : List Literal) (n : ℕ) (is_next : IsNextUnit c rows l lits n) (hints : List ℤ) (shown : AreUnitsAnd c lits n hints) (apart : assumes formula.constraints (negate l) ≡ false) where
    abbrev step : LogStep
    step = ClauseWithHints c.next (integers_of (l ∷ [])) hints

    back : literals (integers_of (l ∷ [])) ≡ l ∷ []
    back = literals_are formula.variables (l ∷ []) (l_within formula c e rows st.0 st.1 st.3 l is_next.next.0 is_next.next.1)

    named : IsNamedBy st.0.moment.tables.clauses lits n
    named = sourced_is_named formula c e rows st.0 st.3 lits n is_next.sourced

    live : IsLiveSet st.0.moment.tables.clauses lits
    live = (named.clause, (n, named.live), named.same)

    -- unit clauses make the other literals false, since they were false before
    right : AreHintsFor st.0.moment.tables.clauses (l ∷ []) hints
    right = unit_hints_are_right st.0.moment.tables.clauses c.next c st.0.trail st.3.units lits n hints named shown (l ∷ [])
        (λ m has. by_cases (same_literal l m)
        (λ same. inl (ap (has_literal (l ∷ [])) (sym (are_one l m same)) ∙ has_at_head l []))
        (λ other.
        let f = (is_next.implied (length c.units.items) is_next.next.0 is_next.next.1).others_false m has (ap (λ x. same_literal x m) is_next.next.1 ∙ other) in
        inr (f.0, f.1, (let low = f.1 in let more = is_next.next.0 in omega (arith, low, more), f.2))))

    forces : ForcesOn (take (length c.units.items) c.trail.entries) live.0 l
    forces = implied_forces c.trail l lits live.0 (length c.units.items) is_next.next.0 is_next.next.1 is_next.implied live.2

    abbrev after : Search
    after = after_unit formula c e rows st.0 st.1 st.3 l is_next.next.0 is_next.next.1 hints

    is_search : IsSearchIn c.tidies formula e.parities after
    is_search = unit_is_search formula c e rows st.0 st.1 st.3 l is_next.next.0 is_next.next.1 level live.0 live.1 forces back hints right apart

    told_then : (o : Option (List LogEvent)) → AreTold o st.0.events → AreTold (with_events (Step step ∷ []) o) after.events
    told_then None a = tt
    told_then (Some es) a = ap (λ xs. xs ++ Step step ∷ []) a

    pub left_then : IsLeft formula (with_events (Step step ∷ []) old)
    left_then = is_left formula e.parities after (with_events (Step step ∷ []) old) is_search refl (told_then old st.2)

    pub stands_then : (new : Option (List LogEvent)) → new ≡ with_events (Step step ∷ []) old → (units : Vec ℕ) → units.items ≡ c.units.items ++ c.next ∷ [] → (next : ℕ) → next ≡ c.next + 1 → SearchStandsFrom formula (with_unit c units next) e next rows new
    stands_then new same units grown next next_is = (
      after,
      is_search,
      subst (λ o. AreTold o after.events) (sym same) (told_then old st.2),
      unit_ties formula c e rows st.0 st.1 st.3 l is_next.next.0 is_next.next.1 level live.0 live.1 forces back hints units grown next next_is,
      st.4,
    )

-- ---- unit clauses change nothing that propagation found
-- ---- what stays the same
pub others_rest : (c : SearchState) → HasOther c c
others_rest c = record { trail = refl; arena = refl; watches = refl; order = refl; given = refl; conflicts = refl; phases = refl; learned = refl; reductions = refl; tidies = refl }

pub others_then : (a b c : SearchState) → HasOther a b → HasOther b c → HasOther a c
others_then a b c h k = record {
  trail = k.trail ∙ h.trail;
  arena = k.arena ∙ h.arena;
  watches = k.watches ∙ h.watches;
  order = k.order ∙ h.order;
  given = k.given ∙ h.given;
  conflicts = k.conflicts ∙ h.conflicts;
  phases = k.phases ∙ h.phases;
  learned = k.learned ∙ h.learned;
  reductions = k.reductions ∙ h.reductions;
  tidies = k.tidies ∙ h.tidies;
}

has_all_still : (old new : SearchState) → HasOther old new → HasAll old → HasAll new
has_all_still old new same h = same.given ∙ h ∙ ap (λ (t : TrailState). length t.entries) (sym same.trail)

pub finds_still : (old new : SearchState) (e : State) (f : Found) → HasOther old new → PropagationFinds old e f → PropagationFinds new e f
finds_still old new e found.Quiet same h = (rw (same.watches, same.arena, same.trail) h.0, has_all_still old new same h.1, h.2, h.3)
finds_still old new e (found.Clause r) same h = (rw same.watches h.0, rw (same.arena, same.trail) h.1, h.2)
finds_still old new e (found.Row row) same h = (has_all_still old new same h.0, h.1)

-- the oldest literal that contradicts an assumed one is still that
pub failed_still : (constraints now : List Constraint) (old new : SearchState) (checked p : ℕ) → HasOther old new → now ≡ constraints → (p ≡ checked) × (p < length old.trail.entries) × Contradicts constraints old.trail p
    → (p ≡ checked) × (p < length new.trail.entries) × Contradicts now new.trail p
failed_still constraints now old new checked p same formula h = (
  h.0,
  subst (λ (t : TrailState). p < length t.entries) (sym same.trail) h.1,
  subst (λ cs. Contradicts cs new.trail p) (sym formula) (subst (λ (t : TrailState). Contradicts constraints t p) (sym same.trail) h.2),
)
