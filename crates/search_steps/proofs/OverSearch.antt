-- Laws of trails, said of a search's trail and of its older part.
use Rattle.std.proofs.Common.{◌≡◌, sym, ◌∙◌, subst, ℕ, ◌+◌, ◌≤◌, ◌<◌, Bool, true, List, [], ◌∷◌, ◌++◌, inl, inr, arith}
use Rattle.cx_base.specs.Literals.{Literal}
use Rattle.std.proofs.lemmas.List.Folds.{list_all-append}
use Rattle.std.proofs.lemmas.Bool.{and_parts}
use Rattle.cx_base.specs.Parity.{normal_form}
use Rattle.cx_base.specs.Problem.{Problem, parities_of, parity_met}
use Rattle.cx_base.proofs.ParityLaws.{Sums, Sums-from_met, met-from_Sums}
use Rattle.search_steps.proofs.RowLaws.{at_place}
use Rattle.cx_semantics.specs.Chain.{is_inside, negations}
use Rattle.cx_semantics.specs.Fresh.{IsLive}
use Rattle.cx_semantics.specs.LogRules.{HasChain}
use Rattle.cx_semantics.specs.Tables.{Table}
use Rattle.cx_semantics.proofs.Soundness.{roof, below_roof}
use Rattle.cx_trail.specs.Sequence.{TrailState}
use Rattle.conflict_learn.specs.declared.learning.Resolved.{Resolved}
use Rattle.conflict_learn.specs.Levels.{Teaches}
use Rattle.parity_engine.specs.State.{State, back}
use Rattle.search_steps.specs.Laws.{HaveTheirs}
use Rattle.search_steps.specs.Recovering.{HasRecovered}
use Rattle.search_steps.specs.Trail.{Entry, all_held, back_to, IsTrail}
use Rattle.search_steps.specs.Quiet.{IsOfParities}
use Rattle.search_steps.specs.Search.{Search, IsSearchIn, IsLearnedOf}
use Rattle.search_steps.specs.LogSteps.{RestOnClauses}
use Rattle.cx_trail.specs.declared.entry.Entry.{Entry as TrailEntry}
use Rattle.search_steps.specs.Propagated.{IsPropagated}
use Rattle.search_steps.specs.Tied.{Mirrors, AreForcedBehind}
use Rattle.search_steps.proofs.Bridge.{level_tied}
use Rattle.search_steps.proofs.Propagation.{propagation_keeps}
use Rattle.search_steps.specs.Engine.{HoldsValues}
use Rattle.search_steps.proofs.LogLaws.{falsified_has_chain}
use Rattle.search_steps.proofs.LearnedLaws.{taught_is_learned}
use Rattle.search_steps.proofs.EngineLaws.{back_holds_values}
use Rattle.search_steps.proofs.TrailLaws.{trail_no_clash}

-- what a parity says, its normal form says
same_form_is_met : (v : List Bool) (a b : List Literal) → normal_form a ≡ normal_form b → parity_met v a ≡ true → parity_met v b ≡ true
same_form_is_met v a b is met =
    let n = roof a + roof b in
    met-from_Sums n v b (below_roof n b (omega arith)) (subst (Sums n v) is (Sums-from_met n v a (below_roof n a (omega arith)) met))

-- the engine's parities say what the formula's do, where these come first among them and then the recovered ones
pub theirs_are_had : (formula : Problem) (more : List (List Literal)) → HasRecovered formula more → HaveTheirs formula (parities_of formula.constraints ++ more)
theirs_are_had formula more recovered values h parity is =
    let both = and_parts _ _ (sym (list_all-append (parity_met values) (parities_of formula.constraints) more) ∙ h) in
    elim is [
      | inl theirs ↦ at_place (parity_met values) (parities_of formula.constraints) both.0 parity theirs
      | inr found ↦
          let find = recovered (normal_form parity) found in
          same_form_is_met values find.0 parity find.2 (at_place (parity_met values) more both.1 find.0 find.1)
    ]

pub older_is_trail : (table : Table) (IsRow : List Literal → Type 0) (newer older : List Entry) → IsTrail table IsRow (newer ++ older) → IsTrail table IsRow older
older_is_trail table IsRow [] older t = t
older_is_trail table IsRow (x ∷ newer) older t = older_is_trail table IsRow newer older t.2

module _ {tidies : Bool} (formula : Problem) (parities : List (List Literal)) (s : Search) (ok : IsSearchIn tidies formula parities s) where
  pub no_clash : Rattle.search_steps.specs.Quiet.HasNoClash (all_held s.trail)
  no_clash = trail_no_clash s.moment.tables.clauses (IsOfParities formula.variables parities) s.trail ok.serves.stands

  pub taught_by_search : (t : TrailState) → Mirrors s.trail t → 0 < t.level → (conflict : List Literal) (holds : List Literal → ℕ → Type 0) (resolved : List Resolved) (lits : List Literal) (back lbd : ℕ)
      → Teaches t conflict holds resolved lits back lbd → (l : Literal) × (more : List Literal) × (lits ≡ l ∷ more) × IsLearnedOf s.trail back lits l
  taught_by_search t f above conflict holds resolved lits back lbd =
      taught_is_learned s.moment.tables.clauses (IsOfParities formula.variables parities) s.trail ok.serves.stands t f.sound f.tied above conflict holds resolved lits back lbd

  pub propagated_search : (t : TrailState) → Mirrors s.trail t → s.quiet_levels ≤ t.level → (bound : ℕ) (more : List TrailEntry) → AreForcedBehind s.moment.tables.clauses bound t.level t.entries more
      → IsPropagated tidies formula parities bound s (t.entries ++ more)
  propagated_search t f low bound more forced = propagation_keeps formula parities bound t.level s ok low (level_tied s.trail t f.tied f.sound) t.entries f.tied more forced

  module _ (newer older : List Entry) (parts : s.trail ≡ newer ++ older) where
    older_stands : IsTrail s.moment.tables.clauses (IsOfParities formula.variables parities) older
    older_stands = older_is_trail s.moment.tables.clauses (IsOfParities formula.variables parities) newer older
        (subst (IsTrail s.moment.tables.clauses (IsOfParities formula.variables parities)) parts ok.serves.stands)

    pub false_by_units : RestOnClauses older → (clause : List Literal) → IsLive s.moment.tables.clauses clause → is_inside (negations clause) (all_held older) ≡ true → HasChain s.moment.tables.clauses []
    false_by_units rest clause live h = falsified_has_chain s.moment.tables.clauses (IsOfParities formula.variables parities) older older_stands rest clause live h

    pub older_values_back : (engine : State) → HoldsValues older engine.values → (k : ℕ) → HoldsValues (back_to k older) (back k engine).values
    older_values_back engine v k = back_holds_values engine older v s.moment.tables.clauses (IsOfParities formula.variables parities) older_stands k
