-- Whether a table keeps a clause depends on the clause's set of literals alone.
use Rattle.std.proofs.Common.{◌≡◌, sym, ap, ◌∙◌, subst, ℕ, zero, suc, ◌<◌, Bool, true, List, [], ◌∷◌, length, get_or, arith, true≢false, inl, inr}
use Rattle.std.specs.List.{list_any}
use Rattle.std.proofs.lemmas.Bool.{or_cases, or_left, or_right, and_parts, and_from}
use Rattle.cx_base.specs.Literals.{Literal, negate}
use Rattle.cx_base.specs.Problem.{Problem, clauses_of}
use Rattle.cx_semantics.specs.Chain.{has_literal, is_inside, same_literals}
use Rattle.cx_semantics.specs.Fresh.{is_tautology}
use Rattle.cx_semantics.specs.Marked.{KeepsFormula}
use Rattle.cx_semantics.specs.Tables.{Table}
use Rattle.cx_semantics.proofs.Closure.{has_by_inside, inside_itself}
use Rattle.cx_semantics.proofs.Members.{has_at_head, has_behind, has_split, all_by}
use Rattle.plain_tests.specs.Marking.{IsKept}

inside_on : (a b c : List Literal) → is_inside a b ≡ true → is_inside b c ≡ true → is_inside a c ≡ true
inside_on a b c h k = all_by (has_literal c) a (λ l m. has_by_inside b c l k (has_by_inside a b l h m))

some_literal : (p : Literal → Bool) (lits : List Literal) → list_any p lits ≡ true → (l : Literal) × (has_literal lits l ≡ true) × (p l ≡ true)
some_literal p [] h = absurd (true≢false (sym h))
some_literal p (m ∷ ms) h = elim (or_cases (p m) _ h) [
  | inl e ↦ (m, has_at_head m ms, e)
  | inr k ↦ let r = some_literal p ms k in (r.0, has_behind m ms r.0 r.1, r.2)
]

any_literal : (p : Literal → Bool) (lits : List Literal) (l : Literal) → has_literal lits l ≡ true → p l ≡ true → list_any p lits ≡ true
any_literal p [] l h k = absurd (true≢false (sym h))
any_literal p (m ∷ ms) l h k = elim (has_split m ms l h) [
  | inl e ↦ or_left (p m) _ (sym (ap p e) ∙ k)
  | inr g ↦ or_right (p m) _ (any_literal p ms l g k)
]

tautology_on : (a b : List Literal) → is_inside a b ≡ true → is_tautology a ≡ true → is_tautology b ≡ true
tautology_on a b inside h =
    let both = some_literal (λ l. has_literal a (negate l)) a h in
    any_literal (λ l. has_literal b (negate l)) b both.0 (has_by_inside a b both.0 inside both.1) (has_by_inside a b (negate both.0) inside both.2)

kept_on : (table : Table) (a b : List Literal) → is_inside a b ≡ true → IsKept table a → IsKept table b
kept_on table a b inside (inl (inner, live, h)) = inl (inner, live, inside_on inner a b h inside)
kept_on table a b inside (inr h) = inr (tautology_on a b inside h)

each_kept : (table : Table) (cs : List (List Literal)) → ((i : ℕ) → i < length cs → IsKept table (get_or cs i [])) → (clause : List Literal) → list_any (same_literals clause) cs ≡ true → IsKept table clause
each_kept table [] each clause h = absurd (true≢false (sym h))
each_kept table (c ∷ cs) each clause h = elim (or_cases (same_literals clause c) _ h) [
  | inl e ↦ kept_on table c clause (and_parts (is_inside clause c) (is_inside c clause) e).1 (each 0 (omega arith))
  | inr k ↦ each_kept table cs (λ i less. each (suc i) (omega (arith, less))) clause k
]

-- a formula is kept where each of its clauses is
pub all_kept : (formula : Problem) (table : Table) → ((i : ℕ) → i < length (clauses_of formula.constraints) → IsKept table (get_or (clauses_of formula.constraints) i [])) → KeepsFormula formula table
all_kept formula table each = each_kept table (clauses_of formula.constraints) each

has_itself : (cs : List (List Literal)) (i : ℕ) → i < length cs → list_any (same_literals (get_or cs i [])) cs ≡ true
has_itself [] i less = absurd (omega (arith, less))
has_itself (c ∷ cs) zero less = or_left (same_literals c c) _ (and_from (is_inside c c) (is_inside c c) (inside_itself c) (inside_itself c))
has_itself (c ∷ cs) (suc i) less = or_right (same_literals (get_or cs i []) c) _ (has_itself cs i (omega (arith, less)))

-- where a clause of a formula is not kept, the formula is not
pub one_not_kept : (formula : Problem) (table : Table) (i : ℕ) (clause : List Literal) → i < length (clauses_of formula.constraints) → clause ≡ get_or (clauses_of formula.constraints) i [] → ¬ IsKept table clause → ¬ KeepsFormula formula table
one_not_kept formula table i clause less is wrong keeps =
    wrong (subst (IsKept table) (sym is) (keeps (get_or (clauses_of formula.constraints) i []) (has_itself (clauses_of formula.constraints) i less)))
