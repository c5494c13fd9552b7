-- Clauses inside others.
use Rattle.std.proofs.Common.{◌≡◌, refl, sym, ap, ◌∙◌, Bool, true, false, inl, inr, List, [], ◌∷◌, true≢false}
use Rattle.std.specs.List.{list_any}
use Rattle.std.proofs.lemmas.Bool.{false_from_ne_true, or_left, or_right, or_cases}
use Rattle.cx_base.specs.Literals.{Literal, negate}
use Rattle.cx_semantics.specs.Chain.{has_literal, is_inside}
use Rattle.cx_semantics.specs.Fresh.{is_tautology}
use Rattle.cx_semantics.proofs.Closure.{has_by_inside}
use Rattle.cx_semantics.proofs.Members.{has_at_head, has_behind, has_split}
use Rattle.cx_semantics.proofs.SameSets.{inside_by}

not_both : {A : Type 0} (b : Bool) → b ≡ true → b ≡ false → A
not_both b h k = absurd (true≢false (sym h ∙ k))

-- what holds at a member holds somewhere
pub any_by : (p : Literal → Bool) (lits : List Literal) (l : Literal) → has_literal lits l ≡ true → p l ≡ true → list_any p lits ≡ true
any_by p [] l h k = not_both false h refl
any_by p (x ∷ lits) l h k = elim (has_split x lits l h) [
  | inl e ↦ or_left (p x) (list_any p lits) (ap p (sym e) ∙ k)
  | inr g ↦ or_right (p x) (list_any p lits) (any_by p lits l g k)
]

-- some member, where it holds somewhere
pub some_member : (p : Literal → Bool) (lits : List Literal) → list_any p lits ≡ true → (l : Literal) × (has_literal lits l ≡ true) × (p l ≡ true)
some_member p [] h = not_both false h refl
some_member p (x ∷ lits) h = elim (or_cases (p x) (list_any p lits) h) [
  | inl e ↦ (x, has_at_head x lits, e)
  | inr g ↦ let w = some_member p lits g in (w.0, has_behind x lits w.0 w.1, w.2)
]

-- a literal and its negation
pub tautology_by : (lits : List Literal) (l : Literal) → has_literal lits l ≡ true → has_literal lits (negate l) ≡ true → is_tautology lits ≡ true
tautology_by lits l h k = any_by (λ m. has_literal lits (negate m)) lits l h k

pub tautology_inside : (lits others : List Literal) → is_inside lits others ≡ true → is_tautology lits ≡ true → is_tautology others ≡ true
tautology_inside lits others h t =
    let w = some_member (λ m. has_literal lits (negate m)) lits t in
    tautology_by others w.0 (has_by_inside lits others w.0 h w.1) (has_by_inside lits others (negate w.0) h w.2)

pub no_tautology_inside : (lits others : List Literal) → is_inside lits others ≡ true → is_tautology others ≡ false → is_tautology lits ≡ false
no_tautology_inside lits others h t = false_from_ne_true (is_tautology lits) (λ e. not_both (is_tautology others) (tautology_inside lits others h e) t)

pub inside_through : (a b c : List Literal) → is_inside a b ≡ true → is_inside b c ≡ true → is_inside a c ≡ true
inside_through a b c h k = inside_by a c (λ l g. has_by_inside b c l k (has_by_inside a b l h g))
