-- Literals that no unit clause of level 0 makes false.
use Rattle.std.proofs.Common.{◌≡◌, ◌≢◌, refl, sym, ap, ◌∙◌, subst, ℕ, ◌+◌, ◌<◌, ◌≤◌, Bool, true, false, not, List, [], ◌∷◌, ◌++◌, length, take, get_or, arith, true≢false}
use Rattle.std.specs.List.{AllByRecursion}
use Rattle.cx_base.specs.Literals.{Literal, negate}
use Rattle.cx_base.proofs.Elements.{all_push}
use Rattle.cx_base.proofs.LiteralLaws.{negate-negate}
use Rattle.cx_trail.specs.Sequence.{IsTrail, IsTrueIn, IsOpenIn, Means, entry_at}
use Rattle.cx_trail.specs.declared.entry.Truth.{Truth}
use Rattle.cx_trail.specs.declared.entry.Truth.TheVariants.{True, False, Open}
use Rattle.cdcl_search.specs.declared.state.SearchState.{SearchState}
use Rattle.cdcl_core.specs.Shortening.{ArePartedInto, HasNoUnit, IsToldUnit}
use Rattle.cdcl_core.specs.declared.shortening.UnitClause.{UnitClause}
use Rattle.cdcl_core.proofs.ShortLaws.{left_more, unit_more}
use Rattle.cdcl_core.proofs.ShortSteps.{next_of}

not_own : (b : Bool) → b ≡ not b → ⊥
not_own true e = true≢false e
not_own false e = true≢false (sym e)

module _ (c : SearchState) (sound : IsTrail c.trail) (few : length c.units.items ≤ length c.trail.entries) (l : Literal) where
  -- its negation comes after those that have one
  pub none_past : (place : ℕ) → place < length c.trail.entries → (entry_at c.trail.entries place).literal ≡ negate l → length c.units.items ≤ place → HasNoUnit c (negate l)
  none_past place less at past i low same =
      let one : i ≡ place = sound.distinct i place (omega (arith, low, few)) less (ap (λ (m : Literal). m.variable) (same ∙ sym at)) in
      omega (arith, one, low, past)

  -- it is true
  pub none_true : IsTrueIn c.trail.entries l → HasNoUnit c (negate l)
  none_true at i low same =
      let one : i ≡ at.0 = sound.distinct i at.0 (omega (arith, low, few)) at.1.0 (ap (λ (m : Literal). m.variable) (same ∙ sym (ap negate at.1.1))) in
      not_own l.negative (ap (λ (m : Literal). m.negative) (sym at.1.1 ∙ sym (ap (λ p. (entry_at c.trail.entries p).literal) one) ∙ same))

  -- its variable is not assigned
  pub none_open : IsOpenIn c.trail.entries l.variable → HasNoUnit c (negate l)
  none_open open_now i low same = open_now i (omega (arith, low, few)) (ap (λ (m : Literal). m.variable) same)

  pub none_by : (t : Truth) → t ≢ False → Means c.trail.entries l t → HasNoUnit c (negate l)
  none_by True other means = none_true means
  none_by False other means = absurd (other refl)
  none_by Open other means = none_open means

-- ---- the next literal of a clause
abbrev pub ArePartedSo : SearchState → List Literal → List Literal → List UnitClause → Type 0
ArePartedSo c lits left units = ArePartedInto lits left units × AllByRecursion (IsToldUnit c) units × AllByRecursion (λ m. HasNoUnit c (negate m)) left

module _ (c : SearchState) (lits : List Literal) (i : ℕ) (l : Literal) (less : i < length lits) (at : l ≡ get_or lits i l) (left left_now : List Literal) (units units_now : List UnitClause) (so : ArePartedSo c (take i lits) left units) where
  pub put_unit : (u : UnitClause) → IsToldUnit c u × (u.literal ≡ negate l) → left_now ≡ left → units_now ≡ units ++ u ∷ [] → ArePartedSo c (take (i + 1) lits) left_now units_now
  put_unit u told same pushed = subst (λ ls. ArePartedSo c ls left_now units_now) (sym (next_of lits i l less at))
      (subst (λ us. ArePartedSo c (take i lits ++ l ∷ []) left_now us) (sym pushed)
      (subst (λ ls. ArePartedSo c (take i lits ++ l ∷ []) ls (units ++ u ∷ [])) (sym same)
      (unit_more (take i lits) left units l u (sym (negate-negate l) ∙ ap negate (sym told.1)) so.0, all_push (IsToldUnit c) units u so.1 told.0, so.2)))

  pub put_left : HasNoUnit c (negate l) → left_now ≡ left ++ l ∷ [] → units_now ≡ units → ArePartedSo c (take (i + 1) lits) left_now units_now
  put_left none pushed same = subst (λ ls. ArePartedSo c ls left_now units_now) (sym (next_of lits i l less at))
      (subst (λ us. ArePartedSo c (take i lits ++ l ∷ []) left_now us) (sym same)
      (subst (λ ls. ArePartedSo c (take i lits ++ l ∷ []) ls units) (sym pushed)
      (left_more (take i lits) left units l so.0, so.1, all_push (λ m. HasNoUnit c (negate m)) left l so.2 none)))
