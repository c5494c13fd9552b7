-- Assumptions that fail: no values meet them with the clauses and the parities.
use Rattle.std.proofs.Common.{◌≡◌, refl, sym, ◌∙◌, ℕ, Bool, true, false, not, ◌&&◌, ◌||◌, List, [], ◌∷◌, flat_map, true≢false, IsTrue}
use Rattle.std.specs.List.{list_all, AllByRecursion}
use Rattle.std.proofs.lemmas.Bool.{and_parts, and_from}
use Rattle.std.proofs.lemmas.List.Folds.{list_all-append}
use Rattle.cx_base.specs.Literals.{Literal, literal_true, positive_of, negative_of, value_of}
use Rattle.cx_base.specs.Problem.{Problem, Meets, clause_met, parity_met, constraint_met, clauses_of, parities_of}
use Rattle.cx_base.specs.Assumptions.{assumes, is_ending, without_assumptions, assuming, IsClash, IsFailed}
use Rattle.cx_base.specs.declared.constraint.Constraint.{Constraint}
use Rattle.cx_base.specs.declared.constraint.Constraint.TheVariants as constraint
use Rattle.cx_base.specs.declared.steps.LogStep.{LogStep}
use Rattle.cx_semantics.specs.Chain.{negations}
use Rattle.cx_semantics.specs.Judging.{EndsAt}
use Rattle.cx_semantics.specs.LogRules.{log_calculus, derived_clause}
use Rattle.cx_semantics.proofs.ChainLaws.{literal_true-negate}
use Rattle.cx_semantics.proofs.Soundness.{MeetsGiven, ended_clause_is_met, last_is_ending}

-- ---- what meets a formula under other assumptions

clauses_stay : (v : List Bool) (cs : List Constraint) → list_all (constraint_met v) (flat_map without_assumptions cs) ≡ true → list_all (clause_met v) (clauses_of cs) ≡ true
unfolding clauses_of
clauses_stay v [] h = refl
clauses_stay v (constraint.Clause lits ∷ cs) h = let p = and_parts (clause_met v lits) _ h in and_from _ _ p.0 (clauses_stay v cs p.1)
clauses_stay v (constraint.Parity lits ∷ cs) h = clauses_stay v cs (and_parts (parity_met v lits) _ h).1
clauses_stay v (constraint.Assume lits ∷ cs) h = clauses_stay v cs h

parities_stay : (v : List Bool) (cs : List Constraint) → list_all (constraint_met v) (flat_map without_assumptions cs) ≡ true → list_all (parity_met v) (parities_of cs) ≡ true
unfolding parities_of
parities_stay v [] h = refl
parities_stay v (constraint.Clause lits ∷ cs) h = parities_stay v cs (and_parts (clause_met v lits) _ h).1
parities_stay v (constraint.Parity lits ∷ cs) h = let p = and_parts (parity_met v lits) _ h in and_from _ _ p.0 (parities_stay v cs p.1)
parities_stay v (constraint.Assume lits ∷ cs) h = parities_stay v cs h

abbrev parts : (formula : Problem) (lits : List Literal) (v : List Bool) → Meets (assuming formula lits) v → MeetsGiven formula v × (list_all (literal_true v) lits ≡ true)
parts formula lits v m =
    let both = and_parts (list_all (constraint_met v) (flat_map without_assumptions formula.constraints)) (list_all (constraint_met v) (constraint.Assume lits ∷ []))
    (sym (list_all-append (constraint_met v) (flat_map without_assumptions formula.constraints) (constraint.Assume lits ∷ [])) ∙ m.all_met) in
    (record { clauses = clauses_stay v formula.constraints both.0; parities = parities_stay v formula.constraints both.0 }, (and_parts (list_all (literal_true v) lits) true both.1).0)

-- ---- a step that ends a log

each_assumed : (cs : List Constraint) (lits : List Literal) → is_ending cs lits ≡ true → AllByRecursion (λ l. IsTrue (assumes cs l)) (negations lits)
each_assumed cs [] h = tt
each_assumed cs (l ∷ lits) h = let p = and_parts _ _ h in (p.0, each_assumed cs lits p.1)

negations_miss : (v : List Bool) (lits : List Literal) → list_all (literal_true v) (negations lits) ≡ true → clause_met v lits ≡ false
negations_miss v [] h = refl
negations_miss v (l ∷ lits) h =
    let p = and_parts _ _ h in
    let missed : literal_true v l ≡ false = turned (literal_true v l) (sym (literal_true-negate v l) ∙ p.0) in
    (λ i. missed i || negations_miss v lits p.1 i)
  where
    turned : (b : Bool) → not b ≡ true → b ≡ false
    turned true e = absurd (true≢false (sym e))
    turned false e = refl

pub ended_steps_fail : (formula : Problem) (steps : List LogStep) (k : ℕ) (ended : EndsAt (log_calculus formula) steps k) → IsFailed formula (negations (derived_clause ended.step))
ended_steps_fail formula steps k ended = record {
  assumed = each_assumed formula.constraints (derived_clause ended.step) (last_is_ending formula ended.step ended.ends);
  unmet = λ v m. let p = parts formula (negations (derived_clause ended.step)) v m in
      true≢false (sym (ended_clause_is_met formula steps k ended v p.0) ∙ negations_miss v (derived_clause ended.step) p.1);
}

-- ---- assumptions that clash

not_both : (b : Bool) → (b && (not b && true)) ≡ true → ⊥
not_both true e = true≢false (sym e)
not_both false e = true≢false (sym e)

pub clashes_fail : (formula : Problem) (x : ℕ) → IsClash formula.constraints x → IsFailed formula (positive_of x ∷ negative_of x ∷ [])
clashes_fail formula x c = record {
  assumed = let p = and_parts (assumes formula.constraints (positive_of x)) (assumes formula.constraints (negative_of x)) c.both in (p.0, (p.1, tt));
  unmet = λ v m. not_both (value_of v x) (parts formula (positive_of x ∷ negative_of x ∷ []) v m).1;
}
