-- What a look at a clause's literals finds.
use Rattle.std.proofs.Common.{◌≡◌, sym, ap, ◌∙◌, ℕ, ◌<◌, Bool, true, false, List, [], ◌∷◌, length, get_or, Option, None, Some, is_some, inl, inr, true≢false}
use Rattle.std.specs.List.{list_any}
use Rattle.std.specs.Prelude.{MatchOption}
use Rattle.std.proofs.lemmas.Bool.{or_left, or_right}
use Rattle.cx_base.specs.Literals.{Literal}
use Rattle.cx_semantics.specs.Chain.{has_literal}
use Rattle.cx_semantics.proofs.Members.{has_by_index, has_split}
use Rattle.tidy_rules.specs.Relations.{strengthens, strengthens_at}

-- the literal at a place is one of the clause
pub has_item : (lits : List Literal) (i : ℕ) (l : Literal) → i < length lits → l ≡ get_or lits i l → has_literal lits l ≡ true
has_item lits i l less at = ap (has_literal lits) at ∙ has_by_index lits i l less

pub any_by : (p : Literal → Bool) (lits : List Literal) (l : Literal) → has_literal lits l ≡ true → p l ≡ true → list_any p lits ≡ true
any_by p [] l h k = absurd (true≢false (sym h))
any_by p (x ∷ lits) l h k = elim (has_split x lits l h) [
  | inl e ↦ or_left (p x) (list_any p lits) (ap p (sym e) ∙ k)
  | inr g ↦ or_right (p x) (list_any p lits) (any_by p lits l g k)
]

-- a literal was found exactly where there is one
pub found_exactly : (clause other : List Literal) (o : Option Literal) → MatchOption o (strengthens clause other ≡ false) (λ l. (has_literal clause l ≡ true) × (strengthens_at clause other l ≡ true)) → is_some o ≡ strengthens clause other
found_exactly clause other None h = sym h
found_exactly clause other (Some l) h = sym (any_by (strengthens_at clause other) clause l h.0 h.1)
