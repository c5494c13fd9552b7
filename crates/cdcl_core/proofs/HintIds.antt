-- The ids of the clauses that an analysis resolved are ids that a step may have.
use Rattle.std.proofs.Common.{◌≡◌, sym, ap, ◌∙◌, subst, ℕ, zero, suc, ◌-◌, ◌<◌, List, [], ◌∷◌, length, get_or, Contains, Option, inl, inr, arith}
use Rattle.std.specs.Prelude.{reverse}
use Rattle.std.proofs.lemmas.List.{length-reverse, get_or-reverse}
use Rattle.cx_base.specs.Literals.{Literal}
use Rattle.cx_base.specs.Problem.{Problem}
use Rattle.cx_base.specs.declared.steps.LogEvent.{LogEvent}
use Rattle.cx_trail.specs.Sequence.{TrailState}
use Rattle.conflict_learn.specs.declared.learning.Resolved.{Resolved}
use Rattle.conflict_learn.specs.Learning.{AreAntecedents, Follows}
use Rattle.parity_engine.specs.State.{State}
use Rattle.cdcl_search.specs.declared.state.SearchState.{SearchState}
use Rattle.cdcl_search.specs.Sources.{IsSourcedBy}
use Rattle.cdcl_search.specs.Tells.{IsId}
use Rattle.cdcl_search.specs.Ties.{SearchStands, first_row_id}
use Rattle.cdcl_search.proofs.LowIds.{has_ids, is_one, row_ids_are_ids}

any_default : (xs : List ℕ) (i n : ℕ) → i < length xs → n ≡ get_or xs i 0 → get_or xs i n ≡ n
any_default [] i n less is = absurd (omega (arith, less))
any_default (x ∷ xs) zero n less is = sym is
any_default (x ∷ xs) (suc i) n less is = any_default xs i n (omega (arith, less)) is

module _ (formula : Problem) (c : SearchState) (e : State) (rows : List (List Literal)) (old : Option (List LogEvent)) (st : SearchStands formula c e rows old) where
  pub sourced_is_id : (clause : List Literal) (n : ℕ) → IsSourcedBy c rows clause n → IsId n
  sourced_is_id clause n (inl (r, live, is, at)) = subst IsId (sym at) ((has_ids formula c e rows old st).stored r live)
  sourced_is_id clause n (inr (inl (i, less, is, at))) = is_one c.units.items n (has_ids formula c e rows old st).units (i, less, any_default c.units.items i n less at)
  sourced_is_id clause n (inr (inr (i, less, is, at))) =
      let ids = row_ids_are_ids formula c e (first_row_id c.next) rows st.0 st.3 (omega arith) in
      let low = ids.0 in
      let high = ids.1 in
      (omega (arith, low, at), omega (arith, high, at, less))

-- what holds of each id under which a clause is held
module _ (holds : List Literal → ℕ → Type 0) (P : ℕ → Type 0) (all : (clause : List Literal) (n : ℕ) → holds clause n → P n) where
  antecedents_have : (trail : TrailState) (rs : List Resolved) (clauses : List (List Literal)) → AreAntecedents trail holds rs clauses → (r : Resolved) → Contains rs r → P r.id
  antecedents_have trail [] clauses a r (i, less, is) = absurd (omega (arith, less))
  antecedents_have trail (x ∷ rs) [] a r at = absurd a
  antecedents_have trail (x ∷ rs) (clause ∷ clauses) a r (zero, less, is) = subst (λ (y : Resolved). P y.id) is (all clause x.id a.0)
  antecedents_have trail (x ∷ rs) (clause ∷ clauses) a r (suc i, less, is) = antecedents_have trail rs clauses a.2 r (i, omega (arith, less), is)

  -- it holds of the ids of the clauses that were resolved
  pub resolved_have : (trail : TrailState) (conflict : List Literal) (resolved : List Resolved) (lits : List Literal) → Follows trail conflict holds resolved lits → (r : Resolved) → Contains resolved r → P r.id
  resolved_have trail conflict resolved lits f r (i, less, is) =
      let long = length-reverse resolved in
      let other = length resolved - 1 - i in
      let back : length resolved - 1 - other ≡ i = omega (arith, less) in
      antecedents_have trail (reverse resolved) f.0 f.1 r (
        other,
        omega (arith, less, long),
        get_or-reverse resolved other r (omega (arith, less)) ∙ ap (λ k. get_or resolved k r) back ∙ is,
      )

pub resolved_ids : (formula : Problem) (c : SearchState) (e : State) (rows : List (List Literal)) (old : Option (List LogEvent)) → SearchStands formula c e rows old → (conflict : List Literal) (resolved : List Resolved) (lits : List Literal)
    → Follows c.trail conflict (IsSourcedBy c rows) resolved lits → (r : Resolved) → Contains resolved r → IsId r.id
resolved_ids formula c e rows old st conflict resolved lits f = resolved_have (IsSourcedBy c rows) IsId (sourced_is_id formula c e rows old st) c.trail conflict resolved lits f
