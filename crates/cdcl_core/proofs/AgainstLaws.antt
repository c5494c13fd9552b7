-- A literal that contradicts an assumed one: a clause of it alone implied it, and it is no decision.
use Rattle.std.proofs.Common.{◌≡◌, ◌≢◌, refl, sym, ap, ◌∙◌, ℕ, ◌<◌, true, false, ◌&&◌, List, [], ◌∷◌, length, inl, inr, arith, true≢false}
use Rattle.std.proofs.lemmas.Bool.{and_from}
use Rattle.cx_base.specs.Literals.{Literal, negate, positive_of, negative_of, same_literal}
use Rattle.cx_base.proofs.LiteralLaws.{same_literal-itself}
use Rattle.cx_base.specs.Assumptions.{assumes, clashes}
use Rattle.cx_base.specs.declared.constraint.Constraint.{Constraint}
use Rattle.cx_base.proofs.AssumedLaws.{both_clash}
use Rattle.cx_semantics.specs.Chain.{has_literal}
use Rattle.cx_semantics.proofs.Members.{has_at_head, has_split}
use Rattle.cx_trail.specs.Sequence.{TrailState, IsTrail, entry_at}
use Rattle.conflict_learn.specs.Learning.{IsAntecedent, HasReason, literal_at}
use Rattle.search_policy.specs.Assuming.{KeepsAssumptions, Contradicts}
use Rattle.search_policy.proofs.AssumingLaws.{contradicts_low}
use Rattle.search_policy.specs.declared.assumptions.Assumptions.{Assumptions}

pub alone_implied : (t : TrailState) (l : Literal) (clause : List Literal) → clause ≡ l ∷ [] → IsAntecedent t l clause
alone_implied t l clause is p less same = record {
  has_it = ap (λ ls. has_literal ls (literal_at t p)) is ∙ ap (has_literal (l ∷ [])) same ∙ has_at_head l [];
  others_false = λ m has apart. elim (has_split l [] m (sym (ap (λ ls. has_literal ls m) is) ∙ has)) [
    | inl e ↦ absurd (true≢false (sym (same_literal-itself l) ∙ sym (ap (λ x. same_literal x l) same) ∙ sym (ap (same_literal (literal_at t p)) e) ∙ apart))
    | inr none ↦ absurd (true≢false (sym none))
  ];
}

pub both_assumed_clash : (constraints : List Constraint) (l : Literal) → assumes constraints l ≡ true → assumes constraints (negate l) ≡ true → clashes constraints ≡ true
both_assumed_clash constraints l h k = both_clash constraints l.variable (
    elim l.negative as (λ b. assumes constraints (record { variable = l.variable; negative = b }) ≡ true → assumes constraints (record { variable = l.variable; negative = Rattle.std.proofs.Common.not b }) ≡ true
    → (assumes constraints (positive_of l.variable) && assumes constraints (negative_of l.variable)) ≡ true) [
      | true ↦ λ p q. and_from _ _ q p
      | false ↦ λ p q. and_from _ _ p q
    ] h k)

-- each decision of its levels is of an assumed literal; it would be one too, and the assumptions would clash
pub against_has_reason : (constraints : List Constraint) (a : Assumptions) (t : TrailState) → KeepsAssumptions constraints a t → IsTrail t → clashes constraints ≡ false → (p : ℕ) → p < length t.entries → Contradicts constraints t p
    → HasReason t (entry_at t.entries p).literal (entry_at t.entries p).reason
against_has_reason constraints a t k ok none p less h = (
  p,
  less,
  refl,
  refl,
  λ above is.
      let same = contradicts_low constraints a t k ok p less h in
      let top = ok.levels p less in
      true≢false (sym (both_assumed_clash constraints (entry_at t.entries p).literal (k.decided p less (omega (arith, same, top)) (above, is)) h) ∙ none),
)
