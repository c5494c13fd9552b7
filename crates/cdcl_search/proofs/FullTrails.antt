-- The values of a full trail meet the formula where both engines are quiet.
use Rattle.std.proofs.Common.{◌≡◌, ◌≢◌, nat_eq, eqb-true, ◌∷◌, ◌++◌, refl, sym, ap, ◌∙◌, subst, ℕ, ◌+◌, ◌-◌, ◌<◌, Bool, true, false, not, ◌||◌, List, [], length, get_or, Option, arith}
use Rattle.std.proofs.lemmas.Bool.{eqb-false, or_right}
use Rattle.std.proofs.Math.ListN.{get_or-append}
use Rattle.std.proofs.Math.Seq.{get_or-append_seam}
use Rattle.cx_base.specs.Literals.{Literal, literal_true, value_of, differ}
use Rattle.cx_base.specs.Assumptions.{assumes}
use Rattle.cx_base.specs.Problem.{Problem, Meets, IsWithinVariables}
use Rattle.cx_semantics.specs.Chain.{has_literal}
use Rattle.cx_base.specs.declared.steps.LogEvent.{LogEvent}
use Rattle.cx_semantics.specs.Settled.{Decides}
use Rattle.cx_semantics.proofs.Members.{all_by}
use Rattle.cx_trail.specs.Sequence.{TrailState, IsTrail, IsFull, IsTrueIn, entry_at}
use Rattle.parity_engine.specs.State.{State}
use Rattle.search_steps.specs.Trail.{all_held}
use Rattle.search_steps.specs.Search.{Search, IsSearchIn}
use Rattle.conflict_learn.proofs.ChainOfResolutions.{by_cases}
use Rattle.search_steps.proofs.Bridge.{true_is_held, held_is_true}
use Rattle.search_steps.proofs.EndLaws.{full_is_met}
use Rattle.cdcl_search.specs.declared.state.SearchState.{SearchState}
use Rattle.cdcl_search.specs.declared.propagation.Found.TheVariants as found
use Rattle.cdcl_search.specs.Ties.{Ties, SearchStands, IsWatched}
use Rattle.cdcl_search.specs.Finds.{PropagationFinds}
use Rattle.cdcl_search.proofs.Decisions.{is_quiet}

-- the values are those of the first so many variables on the trail
abbrev pub AreValues : TrailState → ℕ → List Bool → Type 0
AreValues t n values = (k : ℕ) → k < n → IsTrueIn t.entries (record { variable = k + 1; negative = not (get_or values k false) })

-- two true literals of one variable have one sign
one_sign : (t : TrailState) → IsTrail t → (a b : Literal) → IsTrueIn t.entries a → IsTrueIn t.entries b → a.variable ≡ b.variable → a.negative ≡ b.negative
one_sign t sound a b (i, (less, at)) (j, (lower, is)) same =
    let one : i ≡ j = sound.distinct i j less lower (ap (λ (x : Literal). x.variable) at ∙ same ∙ ap (λ (x : Literal). x.variable) (sym is)) in
    ap (λ (x : Literal). x.negative) (sym at) ∙ ap (λ k. (entry_at t.entries k).literal.negative) one ∙ ap (λ (x : Literal). x.negative) is

made_true : (n b : Bool) → n ≡ not b → differ n b ≡ true
made_true n true e = ap (λ m. differ m true) e
made_true n false e = ap (λ m. differ m false) e

-- the values make each literal of the trail true
true_under : (t : TrailState) → IsTrail t → (values : List Bool) → AreValues t t.variables values → (l : Literal) → IsTrueIn t.entries l → literal_true values l ≡ true
true_under t sound values are l (i, (less, at)) =
    let variable : (entry_at t.entries i).literal.variable ≡ l.variable = ap (λ (x : Literal). x.variable) at in
    let low = sound.low i less in
    let high = sound.high i less in
    let back : l.variable ≡ l.variable - 1 + 1 = omega (arith, low, variable) in
    made_true l.negative (value_of values l.variable)
    (one_sign t sound l (record { variable = l.variable - 1 + 1; negative = not (get_or values (l.variable - 1) false) }) (i, (less, at)) (are (l.variable - 1) (omega (arith, low, high, variable))) back)

module _ (formula : Problem) (c : SearchState) (e : State) (s : Search) (ok : IsSearchIn c.tidies formula e.parities s) (t : Ties formula c e [] s) (f : IsWatched c.watches c.arena c.trail) where
  decides : IsFull c.trail → Decides formula.variables (all_held s.trail)
  decides full v low high =
      let n = t.trail.variables in
      let r = full v low (omega (arith, high, n)) in
      go r.0 r.1 (entry_at c.trail.entries r.0).literal.negative refl r.2
    where
      go : (i : ℕ) → i < length c.trail.entries → (b : Bool) → (entry_at c.trail.entries i).literal.negative ≡ b → (entry_at c.trail.entries i).literal.variable ≡ v
          → (has_literal (all_held s.trail) (record { variable = v; negative = false }) || has_literal (all_held s.trail) (record { variable = v; negative = true })) ≡ true
      go i less true sign same =
          or_right (has_literal (all_held s.trail) (record { variable = v; negative = false })) (has_literal (all_held s.trail) (record { variable = v; negative = true }))
          (true_is_held s.trail c.trail.entries t.trail.follows.tied (record { variable = v; negative = true }) (i, (less, λ k. record { variable = same k; negative = sign k })))
      go i less false sign same =
          ap (λ b. b || has_literal (all_held s.trail) (record { variable = v; negative = true }))
          (true_is_held s.trail c.trail.entries t.trail.follows.tied (record { variable = v; negative = false }) (i, (less, λ k. record { variable = same k; negative = sign k })))

  values_meet : PropagationFinds c e found.Quiet → IsFull c.trail → ((l : Literal) → assumes formula.constraints l ≡ true → IsTrueIn c.trail.entries l) → IsWithinVariables formula.variables formula.constraints → (values : List Bool) → length values ≡ formula.variables → AreValues c.trail c.trail.variables values → Meets formula values
  values_meet finds full assumed within values long are =
      full_is_met formula e.parities s ok (is_quiet formula c e s ok t f finds) t.engine.theirs (λ l h. true_is_held s.trail c.trail.entries t.trail.follows.tied l (assumed l h)) values within.1 (decides full) long
      (all_by (literal_true values) (all_held s.trail) (λ l h. true_under c.trail t.trail.follows.sound values are l (held_is_true s.trail c.trail.entries t.trail.follows.tied l h)))

pub full_trail_meets : (formula : Problem) (c : SearchState) (e : State) (told : Option (List LogEvent)) → SearchStands formula c e [] told → PropagationFinds c e found.Quiet → IsFull c.trail → ((l : Literal) → assumes formula.constraints l ≡ true → IsTrueIn c.trail.entries l) → IsWithinVariables formula.variables formula.constraints
    → (values : List Bool) → length values ≡ formula.variables → AreValues c.trail formula.variables values → Meets formula values
full_trail_meets formula c e told (s, ok, told_is, t, f) finds full assumed within values long are =
    values_meet formula c e s ok t f finds full assumed within values long (subst (λ n. AreValues c.trail n values) (sym t.trail.variables) are)

pub as_many_variables : (formula : Problem) (c : SearchState) (e : State) (told : Option (List LogEvent)) → SearchStands formula c e [] told → c.trail.variables ≡ formula.variables
as_many_variables formula c e told (s, ok, told_is, t, f) = t.trail.variables

-- one value more
pub one_value_more : (t : TrailState) (n : ℕ) (values : List Bool) (b : Bool) → length values ≡ n → AreValues t n values → IsTrueIn t.entries (record { variable = n + 1; negative = not b }) → AreValues t (n + 1) (values ++ b ∷ [])
one_value_more t n values b long are is k less = by_cases (nat_eq k n)
    (λ here.
    let at : k ≡ n = eqb-true k n here in
    let value : get_or (values ++ b ∷ []) k false ≡ b = ap (λ i. get_or (values ++ b ∷ []) i false) (at ∙ sym long) ∙ get_or-append_seam values b [] false in
    subst (λ v. IsTrueIn t.entries (record { variable = k + 1; negative = not v })) (sym value) (subst (λ i. IsTrueIn t.entries (record { variable = i + 1; negative = not b })) (sym at) is))
    (λ before.
    let apart : k ≢ n = eqb-false k n before in
    let lower : k < n = omega (arith, less, apart) in
    let value : get_or (values ++ b ∷ []) k false ≡ get_or values k false = get_or-append values (b ∷ []) false k (omega (arith, lower, long)) in
    subst (λ v. IsTrueIn t.entries (record { variable = k + 1; negative = not v })) (sym value) (are k lower))
