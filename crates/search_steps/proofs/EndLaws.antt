-- How the search ends: with values, with the empty clause, or with an open log; and a settled formula wants no decision.
use Rattle.std.proofs.Common.{◌≡◌, refl, sym, ap, ◌∙◌, ℕ, ◌≤◌, Bool, true, false, not, ◌&&◌, ◌||◌, List, [], ◌∷◌, length, Contains, filter_map, ◌⊎◌, inl, inr, true≢false}
use Rattle.std.specs.List.{list_all, AllByRecursion}
use Rattle.std.proofs.lemmas.Bool.{not-true, or_right, and_from}
use Rattle.cx_base.specs.Literals.{Literal, negate, literal_true, differ}
use Rattle.cx_base.specs.Assumptions.{assumptions_of, assumes}
use Rattle.cx_base.specs.Problem.{Problem, Meets, clause_met, parity_met, constraint_met, clauses_of, parities_of, AreWithin, literals_of}
use Rattle.cx_base.specs.declared.constraint.Constraint.{Constraint}
use Rattle.cx_base.specs.declared.constraint.Constraint.TheVariants as constraint
use Rattle.cx_base.proofs.Odd.{parity_met-cons}
use Rattle.cx_base.proofs.Elements.{in_head, in_tail}
use Rattle.cx_semantics.specs.Chain.{has_literal}
use Rattle.cx_semantics.specs.Fresh.{is_falsified}
use Rattle.cx_semantics.specs.Judging.{IsOpen}
use Rattle.cx_semantics.specs.LogRules.{log_calculus}
use Rattle.cx_base.specs.Events.{step_of}
use Rattle.cx_semantics.specs.Marked.{Marked}
use Rattle.cx_semantics.specs.Settled.{IsClauseOf, Decides, SettledBy, Settled}
use Rattle.cx_semantics.specs.Tables.{Table}
use Rattle.cx_semantics.proofs.ChainLaws.{true_by_all, literal_true-negate}
use Rattle.cx_semantics.proofs.Members.{all_by, has_left, has_right}
use Rattle.search_steps.specs.Laws.{HaveTheirs}
use Rattle.search_steps.specs.Quiet.{Quiet, RestsOn, IsOfParities}
use Rattle.search_steps.specs.Recovering.{SettledWithRecovered}
use Rattle.search_steps.specs.Trail.{all_held}
use Rattle.search_steps.specs.Search.{Search, IsSearchIn}
use Rattle.tidy_rules.proofs.InsideLaws.{some_member}
use Rattle.search_steps.proofs.Sets.{not_both, tautology_rests}
use Rattle.search_steps.proofs.Stored.{rests_around}
use Rattle.search_steps.proofs.TrailLaws.{trail_no_clash}

-- ---- a settled formula
-- what its own parities settle is settled with the recovered ones
pub settled_by_its_own : (formula : Problem) → Settled formula → SettledWithRecovered formula
settled_by_its_own formula settled = record { parities = parities_of formula.constraints; are = λ parity c. inl c; settled = settled }

-- Where both engines are quiet over a settled formula, each variable is decided; so no decision is made, and no conflict above level 0 comes.
pub settled_is_decided : (formula : Problem) (theirs parities : List (List Literal)) (table : Table) (known : List Literal)
    → ((values : List Bool) → list_all (parity_met values) parities ≡ true → list_all (parity_met values) theirs ≡ true)
    → ((clause : List Literal) → IsClauseOf formula clause → RestsOn known clause)
    → SettledBy formula theirs → Quiet formula.variables parities table known → Decides formula.variables known
settled_is_decided formula theirs parities table known fewer rests settled q = elim (settled known (record {
  units = λ clause l c e. (rests clause c).unit_held l e;
  forced = λ l low high f. q.rows.forced l low high (λ v s. f v (record { agrees = s.agrees; meets = fewer v s.meets }));
})) [
  | inl (clause, c, f) ↦ absurd (not_both (is_falsified known clause) f (rests clause c).not_falsified)
  | inr rest ↦ elim rest [
    | inl none ↦ absurd (none (q.rows.consistent.0, record { agrees = q.rows.consistent.1.agrees; meets = fewer q.rows.consistent.0 q.rows.consistent.1.meets }))
    | inr d ↦ d
  ]
]

-- ---- a model
module _ (n : ℕ) (known : List Literal) (decides : Decides n known) where
  -- one of a literal and its negation is held
  one_held : (l : Literal) → 1 ≤ l.variable → l.variable ≤ n → (has_literal known l ≡ true) ⊎ (has_literal known (negate l) ≡ true)
  one_held l low high = elim l.negative as (λ b. ((has_literal known (record { variable = l.variable; negative = b }) ≡ true) ⊎ (has_literal known (record { variable = l.variable; negative = not b }) ≡ true))) [
    | true ↦ swap_sides (either _ _ (decides l.variable low high))
    | false ↦ either _ _ (decides l.variable low high)
  ]
    where
      either : (a b : Bool) → (a || b) ≡ true → (a ≡ true) ⊎ (b ≡ true)
      either true b h = inl refl
      either false b h = inr h

      swap_sides : {A B : Type 0} → A ⊎ B → B ⊎ A
      swap_sides (inl a) = inr a
      swap_sides (inr b) = inl b

  -- values that make all that is held true agree on each literal
  agree : (v w : List Bool) → list_all (literal_true v) known ≡ true → list_all (literal_true w) known ≡ true → (l : Literal) → 1 ≤ l.variable → l.variable ≤ n → literal_true v l ≡ literal_true w l
  agree v w hv hw l low high = elim (one_held l low high) [
    | inl h ↦ true_by_all v known l hv h ∙ sym (true_by_all w known l hw h)
    | inr h ↦ not-true _ (sym (literal_true-negate v l) ∙ true_by_all v known (negate l) hv h) ∙ sym (not-true _ (sym (literal_true-negate w l) ∙ true_by_all w known (negate l) hw h))
  ]

  parity_agrees : (v w : List Bool) → list_all (literal_true v) known ≡ true → list_all (literal_true w) known ≡ true → (lits : List Literal) → AreWithin n lits → parity_met v lits ≡ parity_met w lits
  parity_agrees v w hv hw [] h = refl
  parity_agrees v w hv hw (l ∷ lits) h = parity_met-cons v l lits ∙ (λ i. differ (agree v w hv hw l h.0.0 h.0.1 i) (parity_agrees v w hv hw lits h.1 i)) ∙ sym (parity_met-cons w l lits)

  clause_holds : (v : List Bool) (clause : List Literal) → list_all (literal_true v) known ≡ true → AreWithin n clause → is_falsified known clause ≡ false → clause_met v clause ≡ true
  clause_holds v [] h w f = absurd (true≢false f)
  clause_holds v (m ∷ ms) h w f = elim (one_held m w.0.0 w.0.1) [
    | inl k ↦ ap (λ b. b || clause_met v ms) (true_by_all v known m h k)
    | inr k ↦ or_right (literal_true v m) _ (clause_holds v ms h w.1 (sym (ap (λ b. b && is_falsified known ms) k) ∙ f))
  ]

all_constraints : (n : ℕ) (v : List Bool) (cs : List Constraint) → AllByRecursion (λ c. AreWithin n (literals_of c)) cs
    → ((clause : List Literal) → Contains (clauses_of cs) clause → AreWithin n clause → clause_met v clause ≡ true) → ((parity : List Literal) → Contains (parities_of cs) parity → AreWithin n parity → parity_met v parity ≡ true)
    → ((l : Literal) → has_literal (assumptions_of cs) l ≡ true → literal_true v l ≡ true) → list_all (constraint_met v) cs ≡ true
unfolding clauses_of parities_of assumptions_of
all_constraints n v [] w f g h = refl
all_constraints n v (constraint.Clause lits ∷ cs) w f g h = and_from _ _ (f lits (in_head lits (clauses_of cs)) w.0) (all_constraints n v cs w.1 (λ c k. f c (in_tail lits (clauses_of cs) c k)) g h)
all_constraints n v (constraint.Parity lits ∷ cs) w f g h = and_from _ _ (g lits (in_head lits (parities_of cs)) w.0) (all_constraints n v cs w.1 f (λ p k. g p (in_tail lits (parities_of cs) p k)) h)
all_constraints n v (constraint.Assume lits ∷ cs) w f g h = and_from _ _ (all_by (literal_true v) lits (λ m k. h m (has_left lits (assumptions_of cs) m k))) (all_constraints n v cs w.1 f g (λ m k. h m (has_right lits (assumptions_of cs) m k)))

-- where all variables are decided and both engines are quiet, the values of the trail meet the formula
pub quiet_is_met : (formula : Problem) (parities : List (List Literal)) (table : Table) (known : List Literal) (values : List Bool)
    → AllByRecursion (λ c. AreWithin formula.variables (literals_of c)) formula.constraints
    → ((v : List Bool) → list_all (parity_met v) parities ≡ true → (parity : List Literal) → Contains (parities_of formula.constraints) parity → parity_met v parity ≡ true)
    → ((clause : List Literal) → IsClauseOf formula clause → RestsOn known clause)
    → ((l : Literal) → assumes formula.constraints l ≡ true → has_literal known l ≡ true)
    → Quiet formula.variables parities table known → Decides formula.variables known → length values ≡ formula.variables → list_all (literal_true values) known ≡ true → Meets formula values
quiet_is_met formula parities table known values within theirs rests assumed q decides long agrees = record {
  one_each = long;
  all_met = all_constraints formula.variables values formula.constraints within
      (λ clause c w. clause_holds formula.variables known decides values clause agrees w (rests clause c).not_falsified)
      (λ parity c w. parity_agrees formula.variables known decides values q.rows.consistent.0 agrees q.rows.consistent.1.agrees parity w ∙ theirs q.rows.consistent.0 q.rows.consistent.1.meets parity c)
      (λ l h. true_by_all values known l agrees (assumed l h));
}

-- ---- logs at the end
module _ {tidies : Bool} (formula : Problem) (parities : List (List Literal)) (s : Search) (ok : IsSearchIn tidies formula parities s) (served : s.moment.awaits ≡ false) where
  pub is_marked : Marked formula s.events s.conflicts
  is_marked = record { marks = ok.log.marks; originals = ok.log.originals; last = s.moment; fit = ok.log.fits; served = served }

  pub is_log_open : IsOpen (log_calculus formula) (filter_map step_of s.events)
  is_log_open = (ok.log.apart, (s.moment.tables, ok.log.runs))

-- ---- the search, where both engines are quiet
module _ {tidies : Bool} (formula : Problem) (parities : List (List Literal)) (s : Search) (ok : IsSearchIn tidies formula parities s) (quiet : Quiet formula.variables parities s.moment.tables.clauses (all_held s.trail))
    (theirs : HaveTheirs formula parities) where
  -- each clause of the formula rests, since it is a tautology or a live one lies inside it
  formula_rests : (clause : List Literal) → IsClauseOf formula clause → RestsOn (all_held s.trail) clause
  formula_rests clause c = elim (ok.covered clause c) [
    | inl both ↦
        let w = some_member (λ l. has_literal clause (negate l)) clause both in
        tautology_rests (all_held s.trail) clause w.0 (trail_no_clash s.moment.tables.clauses (IsOfParities formula.variables parities) s.trail ok.serves.stands) w.1 w.2
    | inr (n, cover) ↦ rests_around (all_held s.trail) cover.inner clause cover.inside (quiet.clauses cover.inner (n, cover.live))
  ]

  all_theirs : (v : List Bool) (lists : List (List Literal)) → ((parity : List Literal) → Contains lists parity → parity_met v parity ≡ true) → list_all (parity_met v) lists ≡ true
  all_theirs v [] h = refl
  all_theirs v (p ∷ ps) h = and_from _ _ (h p (in_head p ps)) (all_theirs v ps (λ x k. h x (in_tail p ps x k)))

  -- no decision is made over a formula that is settled with the recovered parities
  pub settled_wants_no_decision : SettledWithRecovered formula → Decides formula.variables (all_held s.trail)
  settled_wants_no_decision settled = settled_is_decided formula settled.parities parities s.moment.tables.clauses (all_held s.trail)
      (λ v h. all_theirs v settled.parities (λ parity c. theirs v h parity (settled.are parity c))) formula_rests settled.settled quiet

  -- a full trail meets the formula
  pub full_is_met : ((l : Literal) → assumes formula.constraints l ≡ true → has_literal (all_held s.trail) l ≡ true) → (values : List Bool) → AllByRecursion (λ c. AreWithin formula.variables (literals_of c)) formula.constraints → Decides formula.variables (all_held s.trail) → length values ≡ formula.variables
      → list_all (literal_true values) (all_held s.trail) ≡ true → Meets formula values
  full_is_met assumed values within decides long agrees = quiet_is_met formula parities s.moment.tables.clauses (all_held s.trail) values within (λ v h parity c. theirs v h parity (inl c)) formula_rests assumed quiet decides long agrees
