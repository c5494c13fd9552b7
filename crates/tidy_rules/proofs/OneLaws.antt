-- What says the same as one literal.
use Rattle.std.proofs.Common.{◌≡◌, inl, inr, sym, ap, ◌∙◌, true, List, [], ◌∷◌, true≢false}
use Rattle.std.specs.List.{Contains}
use Rattle.std.proofs.lemmas.Bool.{and_parts}
use Rattle.cx_base.specs.Literals.{Literal, HasTwo}
use Rattle.cx_semantics.specs.Chain.{has_literal, is_inside, same_literals}
use Rattle.cx_semantics.proofs.Closure.{has_by_inside}
use Rattle.cx_semantics.proofs.Members.{has_by_index, has_split}

contained_has : (lits : List Literal) (l : Literal) → Contains lits l → has_literal lits l ≡ true
contained_has lits l (i, less, e) = ap (has_literal lits) (sym e) ∙ has_by_index lits i l less

only_one : (x l : Literal) → has_literal (x ∷ []) l ≡ true → l ≡ x
only_one x l h = elim (has_split x [] l h) [ inl e ↦ e | inr none ↦ absurd (true≢false (sym none)) ]

-- it has no two different ones
pub not_two : (x : Literal) (clause : List Literal) → same_literals (x ∷ []) clause ≡ true → HasTwo clause → ⊥
not_two x clause same two =
    let back = (and_parts (is_inside (x ∷ []) clause) (is_inside clause (x ∷ [])) same).1 in
    let one = only_one x two.first (has_by_inside clause (x ∷ []) two.first back (contained_has clause two.first two.has_first)) in
    let other = only_one x two.second (has_by_inside clause (x ∷ []) two.second back (contained_has clause two.second two.has_second)) in
    two.differ (one ∙ sym other)
