-- What is left of a clause whose literals rest on assumed ones.
use Rattle.std.proofs.Common.{◌≡◌, refl, sym, ap, ◌∙◌, subst, ℕ, suc, ◌+◌, ℤ, pos, ◌++◌, ◌<◌, ◌≤◌, nat_lt, true, false, ◌||◌, List, [], ◌∷◌, length, Option, Some, None, Result, Ok, Err, arith, true≢false}
use Rattle.std.proofs.lemmas.Bool.{ltb-true, ltb-false, and_from}
use Rattle.std.specs.List.{list_any, AllByRecursion}
use Rattle.std.specs.Prelude.{IfOk, IfSome, IsTrue}
use Rattle.cx_base.specs.Assumptions.{assumes, is_ending, IsFailed}
use Rattle.cx_base.specs.Literals.{same_literal, negate}
use Rattle.cx_base.proofs.LiteralLaws.{are_one, negate-negate}
use Rattle.cx_trail.specs.Sequence.{TrailState, IsTrail, IsTrueIn, entry_at}
use Rattle.conflict_learn.proofs.ChainOfResolutions.{by_cases}
use Rattle.search_policy.specs.Assuming.{AreApart, KeepsAssumptions, Contradicts, literal_of}
use Rattle.search_policy.proofs.AssumingLaws.{contradicts_low}
use Rattle.search_policy.specs.declared.assumptions.Assumptions.{Assumptions}
use Rattle.cx_base.specs.Literals.{Literal}
use Rattle.cx_base.specs.declared.constraint.Constraint.{Constraint}
use Rattle.cx_semantics.specs.Chain.{has_literal, negations}
use Rattle.conflict_learn.specs.declared.fault.CoreFault.{CoreFault}
use Rattle.conflict_learn.specs.declared.final_analysis.Final.{Final}
use Rattle.conflict_learn.specs.Final.{IsFinal, IsDecidedAt, StandsBelow, kept_in}
use Rattle.conflict_learn.specs.Learning.{literal_at, literals_of, negated_at}
use Rattle.cdcl_search.specs.declared.state.SearchState.{SearchState}
use Rattle.cdcl_search.specs.Sources.{IsSourcedBy, RowsAreApart}
use Rattle.cdcl_core.specs.Failing.{IsFailure, IsFree, IsLeftOf, RestsOnAssumptions, EndsAtPlace}
use Rattle.cx_base.specs.Problem.{Problem, Unmet, AreWithin}
use Rattle.cx_base.specs.Integers.{integers_of, literals}
use Rattle.cx_base.specs.declared.steps.LogStep.TheVariants.{ClauseWithHints}
use Rattle.cx_base.specs.declared.steps.LogEvent.{LogEvent}
use Rattle.cx_base.specs.declared.steps.LogEvent.TheVariants.{Step}
use Rattle.parity_engine.specs.State.{State}
use Rattle.search_steps.specs.Hints.{AreHintsFor, hints_from}
use Rattle.search_steps.specs.LogSteps.{IsAddition}
use Rattle.search_steps.proofs.IdLaws.{next_is_free}
use Rattle.search_steps.proofs.LearnedLaws.{followed_is_hinted}
use Rattle.search_steps.proofs.StartLaws.{literals_are, variables_are_within}
use Rattle.cdcl_search.specs.Tells.{with_events}
use Rattle.cdcl_search.specs.Ties.{SearchStands, first_row_id}
use Rattle.cdcl_search.proofs.SourceLaws.{sourced_is_named}
use Rattle.cdcl_core.specs.Concluding.{IsEndedWith, IsClauseAgainst}
use Rattle.cdcl_core.proofs.EndingLaws.{clause_is_told, clause_is_unmet, clause_fails}
use Rattle.cdcl_core.proofs.FewAdditions.{ties_add_few}

-- it fails also where more rows are told
pub fails_at : (constraints : List Constraint) (c : SearchState) (clause : List Literal) (n : ℕ) (kept : Option Literal) (below : ℕ) (rows more : List (List Literal)) → IsSourcedBy c more clause n → IsFailure constraints c clause n kept below rows
    → IsFailure constraints c clause n kept below more
fails_at constraints c clause n kept below rows more sourced f = record { sourced = sourced; all_false = f.all_false; contradicts = f.contradicts; within = f.within; apart = f.apart; rests = f.rests }

pub is_left : (r : Result Final CoreFault) (constraints : List Constraint) (c : SearchState) (clause : List Literal) (n : ℕ) (kept : Option Literal) (below : ℕ) (rows : List (List Literal)) → IsFailure constraints c clause n kept below rows
    → IfOk r (λ x. IsFinal c.trail below kept clause (IsSourcedBy c rows) x.resolved.items x.lits) → IfOk r (λ x. (l : Literal) → IsTrue (has_literal (literals_of x.resolved.items) l) → StandsBelow c.trail below l) → IfOk r (IsLeftOf constraints c clause n kept below rows)
is_left (Ok x) constraints c clause n kept below rows fails final stand = record { fails = fails; final = final; stand = stand }
is_left (Err fault) constraints c clause n kept below rows fails final stand = tt

-- above the levels whose decisions are assumed no literal of the current level is
pub above_is_free : (constraints : List Constraint) (a : Assumptions) (t : TrailState) → KeepsAssumptions constraints a t → IsTrail t → a.level < t.level → IsFree constraints t
above_is_free constraints a t k ok higher p less level = by_cases (assumes constraints (entry_at t.entries p).literal)
    (λ h.
    let at = member_at a.lits.items (entry_at t.entries p).literal (ap (list_any (same_literal (entry_at t.entries p).literal)) k.all ∙ h) in
    let r = k.passed at.0 (let low = at.1 in omega (arith, low, all_passed)) in
    let same : r.0 ≡ p = ok.distinct r.0 p r.1 less (ap (λ (x : Literal). x.variable) (r.2 ∙ at.2)) in
    let lev = ap (λ i. (entry_at t.entries i).level) same in
    let low = r.3 in
    absurd (omega (arith, lev, low, level, higher)))
    (λ h. h)
  where
    all_passed : length a.lits.items ≤ a.next
    all_passed = by_cases (nat_lt a.next (length a.lits.items))
        (λ e. absurd (let r = k.rest (ltb-true a.next (length a.lits.items) e) in omega (arith, r, higher)))
        (λ e. ltb-false a.next (length a.lits.items) e)

    member_at : (lits : List Literal) (l : Literal) → list_any (same_literal l) lits ≡ true → (i : ℕ) × (i < length lits) × (literal_of lits i ≡ l)
    member_at [] l g = absurd (true≢false (sym g))
    member_at (m ∷ lits) l g = by_cases (same_literal l m)
        (λ e. (0, omega arith, sym (are_one l m e)))
        (λ e. let r = member_at lits l (sym (ap (λ b. b || list_any (same_literal l) lits) e) ∙ g) in (suc r.0, let low = r.1 in omega (arith, low), r.2))

-- the clause of a conflict, or the one that implied a literal that contradicts an assumed one, fails
pub fails_by : (constraints : List Constraint) (c : SearchState) (clause : List Literal) (n : ℕ) (kept : Option Literal) (below : ℕ) (rows : List (List Literal)) → IsClauseAgainst c rows kept clause n → EndsAtPlace constraints c.trail kept below
    → IsFailure constraints c clause n kept below rows
fails_by constraints c clause n None below rows h p = record {
  sourced = h.sourced;
  all_false = λ m has apart. let f = h.all_false m has in (f.0, (let less = f.1.0 in let all = p.all refl in omega (arith, less, all)), f.1.1);
  contradicts = tt;
  within = p.within;
  apart = p.apart;
  rests = p.rests;
}
fails_by constraints c clause n (Some l) below rows h p = record {
  sourced = h.0;
  all_false = λ m has other. (h.1 below p.stands.0.0 p.stands.0.1).others_false m has (ap (λ x. same_literal x m) p.stands.0.1 ∙ other);
  contradicts = ((below, p.stands.0), p.stands.1);
  within = p.within;
  apart = p.apart;
  rests = p.rests;
}

-- where no literal contradicts an assumed one, none does that a row implied
pub rows_apart : (constraints : List Constraint) (t : TrailState) (n : ℕ) → AreApart constraints t n → RowsAreApart constraints t n
rows_apart constraints t n h l reason below has row is = subst (λ (m : Literal). assumes constraints (negate m) ≡ false) below.2.1 (h below.0 below.1)

-- a conflict where each decision is of an assumed literal ends the log by all of the trail
pub conflict_ends_at : (constraints : List Constraint) (a : Assumptions) (t : TrailState) → KeepsAssumptions constraints a t → IsTrail t → t.level ≤ a.level → a.checked ≡ length t.entries → (below : ℕ) → below ≡ length t.entries
    → EndsAtPlace constraints t None below
conflict_ends_at constraints a t k ok low checked below is = record {
  within = omega (arith, is);
  apart = rows_apart constraints t below (λ p less. k.apart p (omega (arith, less, checked, is)));
  rests = λ p less d. let within : p < length t.entries = omega (arith, less, is) in k.decided p within (let top = ok.levels p within in omega (arith, top, low)) d;
  all = λ none. is;
  stands = tt;
}

-- the literal that contradicts an assumed one ends it by what is below it
pub failed_ends_at : (constraints : List Constraint) (a : Assumptions) (t : TrailState) → KeepsAssumptions constraints a t → IsTrail t → (p : ℕ) → p ≡ a.checked → p < length t.entries → Contradicts constraints t p
    → EndsAtPlace constraints t (Some (entry_at t.entries p).literal) p
failed_ends_at constraints a t k ok p is less h = record {
  within = omega (arith, less);
  apart = rows_apart constraints t p (λ q low. k.apart q (omega (arith, low, is)));
  rests = λ q low d. let within : q < length t.entries = omega (arith, low, less) in k.decided q within (let top = ok.levels q within in let same = contradicts_low constraints a t k ok p less h in omega (arith, top, same)) d;
  all = λ none. absurd (no_some (sym none));
  stands = ((less, refl), h);
}
  where
    no_some : {A : Type 0} {x : A} → None ≡ Some x → ⊥
    no_some e = cc

-- at level 0 nothing was decided, so nothing is left
none_decided : (t : TrailState) → IsTrail t → t.level ≡ 0 → (places : List ℕ) (below : ℕ) → below ≤ length t.entries → AllByRecursion (λ p. p < below) places → AllByRecursion (IsDecidedAt t) places → places ≡ []
none_decided t ok zero [] below few w d = refl
none_decided t ok zero (p ∷ places) below few w d = absurd (let low = w.0 in let top = ok.levels p (omega (arith, low, few)) in let above = d.0.0 in omega (arith, top, above, zero))

pub none_left : (constraints : List Constraint) (c : SearchState) (clause : List Literal) (n : ℕ) (kept : Option Literal) (below : ℕ) (rows : List (List Literal)) (left : Final) → IsLeftOf constraints c clause n kept below rows left → IsTrail c.trail
    → kept ≡ None → c.trail.level ≡ 0 → negations left.lits ≡ []
none_left constraints c clause n kept below rows left l ok none zero = ap negations (l.final.are ∙ ap (λ k. kept_in k ++ negated_at c.trail l.final.places) none
    ∙ ap (negated_at c.trail) (none_decided c.trail ok zero l.final.places below l.fails.within l.final.within l.final.decided))

-- ---- what is left ends the log
module _ (constraints : List Constraint) (t : TrailState) (below : ℕ) (rests : RestsOnAssumptions constraints t below) where
  decisions_end : (places : List ℕ) → AllByRecursion (λ p. p < below) places → AllByRecursion (IsDecidedAt t) places → is_ending constraints (negated_at t places) ≡ true
  decisions_end [] w d = refl
  decisions_end (p ∷ places) w d = and_from _ _ (ap (assumes constraints) (negate-negate (literal_at t p)) ∙ rests p w.0 d.0) (decisions_end places w.1 d.1)

  all_end : (kept : Option Literal) → IfSome kept (λ l. IsTrueIn t.entries l × IsTrue (assumes constraints (negate l))) → (places : List ℕ) → AllByRecursion (λ p. p < below) places → AllByRecursion (IsDecidedAt t) places
      → is_ending constraints (kept_in kept ++ negated_at t places) ≡ true
  all_end None k places w d = decisions_end places w d
  all_end (Some l) k places w d = and_from _ _ k.1 (decisions_end places w d)

module _ (formula : Problem) (t : TrailState) (same : t.variables ≡ formula.variables) (ok : IsTrail t) where
  at_place : (p : ℕ) → p < length t.entries → (1 ≤ (literal_at t p).variable) × ((literal_at t p).variable ≤ formula.variables)
  at_place p less = (ok.low p less, subst (λ n. (literal_at t p).variable ≤ n) same (ok.high p less))

  places_within : (places : List ℕ) (below : ℕ) → below ≤ length t.entries → AllByRecursion (λ p. p < below) places → AreWithin formula.variables (negated_at t places)
  places_within [] below few w = tt
  places_within (p ∷ places) below few w = (at_place p (let low = w.0 in omega (arith, low, few)), places_within places below few w.1)

  all_within : (constraints : List Constraint) (kept : Option Literal) → IfSome kept (λ l. IsTrueIn t.entries l × IsTrue (assumes constraints (negate l))) → (places : List ℕ) (below : ℕ) → below ≤ length t.entries → AllByRecursion (λ p. p < below) places
      → AreWithin formula.variables (kept_in kept ++ negated_at t places)
  all_within constraints None k places below few w = places_within places below few w
  all_within constraints (Some l) k places below few w = (
    subst (λ (m : Literal). (1 ≤ m.variable) × (m.variable ≤ formula.variables)) k.0.1.1 (at_place k.0.0 k.0.1.0),
    places_within places below few w,
  )

module _ (formula : Problem) (c : SearchState) (e : State) (rows : List (List Literal)) (old : Option (List LogEvent)) (st : SearchStands formula c e rows old)
    (clause : List Literal) (n : ℕ) (kept : Option Literal) (below : ℕ) (left : Final) (l : IsLeftOf formula.constraints c clause n kept below rows left) (hints : List ℤ) (hinted : hints ≡ hints_from left.resolved.items ++ pos n ∷ []) where
  within : AreWithin formula.variables left.lits
  within = subst (AreWithin formula.variables) (sym l.final.are) (all_within formula c.trail st.3.trail.variables st.3.trail.follows.sound formula.constraints kept l.fails.contradicts l.final.places below l.fails.within l.final.within)

  back : literals (integers_of left.lits) ≡ left.lits
  back = literals_are formula.variables left.lits within

  ends : is_ending formula.constraints left.lits ≡ true
  ends = ap (is_ending formula.constraints) l.final.are ∙ all_end formula.constraints c.trail below l.fails.rests kept l.fails.contradicts l.final.places l.final.within l.final.decided

  right : AreHintsFor st.0.moment.tables.clauses left.lits hints
  right =
      let named = sourced_is_named formula c e rows st.0 st.3 in
      subst (AreHintsFor st.0.moment.tables.clauses left.lits) (sym hinted)
      (followed_is_hinted st.0.moment.tables.clauses c.trail (IsSourcedBy c rows) named clause n (named clause n l.fails.sourced) left.resolved.items left.lits l.final.follows)

  added : IsAddition formula st.0.moment.tables.clauses c.next (integers_of left.lits)
  added = record { within = variables_are_within formula.variables left.lits within; free = next_is_free formula (first_row_id c.next) c.next (first_row_id c.next + length rows) st.0 st.3.log.ranged (omega arith) }

  pub left_is_told : IsEndedWith c.tidies formula c.conflicts (negations left.lits) (with_events (Step (ClauseWithHints c.next (integers_of left.lits) hints) ∷ []) old)
  left_is_told = clause_is_told formula e.parities st.0 st.1 st.3.log.served.served c.conflicts st.3.counts.marked c.next left.lits hints back added right ends (λ plain. let few = ties_add_few formula c e rows st.0 st.3 plain in omega (arith, few)) old st.2

  pub left_is_unmet : Unmet formula
  left_is_unmet = clause_is_unmet formula e.parities st.0 st.1 st.3.log.served.served c.conflicts st.3.counts.marked c.next left.lits hints back added right ends

  pub left_fails : IsFailed formula (negations left.lits)
  left_fails = clause_fails formula e.parities st.0 st.1 st.3.log.served.served c.conflicts st.3.counts.marked c.next left.lits hints back added right ends
