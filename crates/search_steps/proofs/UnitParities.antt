-- The parity that a unit clause gives.
use Rattle.std.proofs.Common.{◌≡◌, refl, sym, ap, ◌∙◌, ℕ, ℤ, Bool, true, false, not, ◌||◌, nat_lt, nat_eq, eq-eqb, List, [], ◌∷◌, Some, is_some, ◌⊎◌, inl, inr, true≢false}
use Rattle.std.specs.List.{list_any, list_all, cons_option}
use Rattle.std.specs.FinSet as set
use Rattle.std.proofs.lemmas.Bool.{and_parts}
use Rattle.cx_base.specs.Literals.{Literal, literal_true, differ}
use Rattle.cx_base.specs.Parity.{normal_form}
use Rattle.cx_base.specs.Problem.{Problem, clause_met, parity_met}
use Rattle.cx_base.specs.Integers.{literal, literals}
use Rattle.cx_base.specs.declared.steps.LogStep.TheVariants.{ParityOfClauses}
use Rattle.cx_base.specs.declared.steps.LogEvent.TheVariants.{Step}
use Rattle.cx_base.proofs.Odd.{is_odd-count, parity_met-cons}
use Rattle.cx_base.proofs.ParityLaws.{contains-normal_form}
use Rattle.cx_semantics.specs.Chain.{has_literal, is_inside, same_literals}
use Rattle.cx_semantics.specs.Judging.{IsRight}
use Rattle.cx_semantics.specs.LogRules.{log_calculus}
use Rattle.cx_semantics.specs.ProofRules.{all_met}
use Rattle.cx_semantics.specs.Implied.{Implies}
use Rattle.cx_semantics.specs.Tables.{get, named}
use Rattle.cx_semantics.proofs.Members.{has_split}
use Rattle.cx_semantics.proofs.Soundness.{same_clause}
use Rattle.cx_semantics.proofs.Widths.{len-normal_form}
use Rattle.search_steps.specs.LogSteps.{IsAddition}
use Rattle.search_steps.specs.Search.{Search, IsSearchIn, told}
use Rattle.search_steps.proofs.LogLaws.{clauses_parity_keeps}

module _ (l : Literal) where
  narrow : nat_lt 12 (set.len (normal_form (l ∷ [])).variables) ≡ false
  narrow = ap (nat_lt 12) (len-normal_form (l ∷ []) (refl, tt))

  has_its_own : (m : Literal) → has_literal (l ∷ []) m ≡ true → set.contains (normal_form (l ∷ [])).variables m.variable ≡ true
  has_its_own m h = contains-normal_form (l ∷ []) m.variable ∙ is_odd-count (λ x. nat_eq x.variable m.variable) l [] ∙ ap (λ b. differ b false) (eq-eqb l.variable m.variable (only (has_split l [] m h)))
    where
      only : (m ≡ l) ⊎ (false ≡ true) → l.variable ≡ m.variable
      only (inl e) = ap (λ x. x.variable) (sym e)
      only (inr e) = absurd (true≢false (sym e))

  none_outside : (clause : List Literal) → is_inside clause (l ∷ []) ≡ true → list_any (λ m. not (set.contains (normal_form (l ∷ [])).variables m.variable)) clause ≡ false
  none_outside [] h = refl
  none_outside (m ∷ clause) h =
      let p = and_parts (has_literal (l ∷ []) m) (is_inside clause (l ∷ [])) h in
      ap (λ b. not b || list_any (λ x. not (set.contains (normal_form (l ∷ [])).variables x.variable)) clause) (has_its_own m p.0) ∙ none_outside clause p.1

  alone_met : (v : List Bool) → clause_met v (l ∷ []) ≡ true → parity_met v (l ∷ []) ≡ true
  alone_met v h = parity_met-cons v l [] ∙ go (literal_true v l) h
    where
      go : (b : Bool) → (b || false) ≡ true → differ b false ≡ true
      go true e = refl
      go false e = e

-- the parity of a live unit clause's literal
module _ {tidies : Bool} (formula : Problem) (parities : List (List Literal)) (s : Search) (ok : IsSearchIn tidies formula parities s) (n : ℕ) (z : ℤ) (unit : ℕ) (clause : List Literal) (a : IsAddition formula s.moment.tables.parities n (z ∷ []))
    (live : get s.moment.tables.clauses unit ≡ Some clause) (same : same_literals (literal z ∷ []) clause ≡ true) where
  inside : is_inside clause (literal z ∷ []) ≡ true
  inside = (and_parts (is_inside (literal z ∷ []) clause) (is_inside clause (literal z ∷ [])) same).1

  implied : Implies (all_met clause_met (named s.moment.tables.clauses (unit ∷ []))) (λ values. parity_met values (literal z ∷ []))
  implied values h = alone_met (literal z) values (same_clause values (literal z ∷ []) clause inside
      (and_parts (clause_met values clause) true (ap (λ o. list_all (clause_met values) (cons_option o [])) (sym live) ∙ h)).0)

  unit_parity_is_right : IsRight (log_calculus formula) s.moment.tables (ParityOfClauses n (z ∷ []) (unit ∷ []))
  unit_parity_is_right = (
    a.within,
    (ap is_some a.free, (ap (λ b. not b || false) (ap is_some live), (narrow (literal z), (outside, (implied, tt))))),
  )
    where
      outside : list_any (list_any (λ m. not (set.contains (normal_form (literal z ∷ [])).variables m.variable))) (named s.moment.tables.clauses (unit ∷ [])) ≡ false
      outside = ap (λ o. list_any (list_any (λ m. not (set.contains (normal_form (literal z ∷ [])).variables m.variable))) (cons_option o [])) live
          ∙ ap (λ b. b || false) (none_outside (literal z) clause inside)

  pub unit_parity_keeps : IsSearchIn tidies formula parities (told s (Step (ParityOfClauses n (z ∷ []) (unit ∷ []))))
  unit_parity_keeps = clauses_parity_keeps formula parities s ok n (z ∷ []) (unit ∷ []) a.free unit_parity_is_right
