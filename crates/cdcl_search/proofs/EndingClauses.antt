-- A clause with a literal whose negation is not assumed is no ending clause.
use Rattle.std.proofs.Common.{◌≡◌, sym, ap, ◌∙◌, true, false, List, [], ◌∷◌, inl, inr, true≢false}
use Rattle.std.proofs.lemmas.Bool.{and_parts}
use Rattle.cx_base.specs.Literals.{Literal, negate}
use Rattle.cx_base.specs.Assumptions.{assumes, is_ending}
use Rattle.cx_base.specs.declared.constraint.Constraint.{Constraint}
use Rattle.cx_semantics.specs.Chain.{has_literal}
use Rattle.cx_semantics.proofs.Members.{has_split}
use Rattle.conflict_learn.proofs.ChainOfResolutions.{by_cases}

-- the negation of each literal of an ending clause is assumed
pub ending_assumes : (constraints : List Constraint) (lits : List Literal) → is_ending constraints lits ≡ true → (l : Literal) → has_literal lits l ≡ true → assumes constraints (negate l) ≡ true
ending_assumes constraints [] e l h = absurd (true≢false (sym h))
ending_assumes constraints (m ∷ lits) e l h =
    let p = and_parts (assumes constraints (negate m)) (is_ending constraints lits) e in
    elim (has_split m lits l h) [
      | inl same ↦ ap (λ x. assumes constraints (negate x)) same ∙ p.0
      | inr behind ↦ ending_assumes constraints lits p.1 l behind
    ]

pub not_ending : (constraints : List Constraint) (lits : List Literal) (l : Literal) → has_literal lits l ≡ true → assumes constraints (negate l) ≡ false → is_ending constraints lits ≡ false
not_ending constraints lits l h apart = by_cases (is_ending constraints lits)
    (λ e. absurd (true≢false (sym (ending_assumes constraints lits e l h) ∙ apart)))
    (λ e. e)
