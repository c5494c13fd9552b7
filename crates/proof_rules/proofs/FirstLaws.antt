-- The lists that a table has from a formula, each in its place.
use Rattle.std.proofs.Common.{◌≡◌, refl, sym, ap, ◌∙◌, ℕ, zero, suc, ◌+◌, ◌<◌, ◌≤◌, Bool, true, false, cond, not, List, [], ◌∷◌, map, length, get_or, set, replicate, Some, None, is_some, true≢false, arith, ◌-◌}
use Rattle.cx_base.specs.Literals.{Literal}
use Rattle.cx_base.specs.Problem.{clauses_of, parities_of}
use Rattle.cx_base.specs.declared.constraint.Constraint.{Constraint}
use Rattle.cx_base.specs.declared.constraint.Constraint.TheVariants as constraint
use Rattle.proof_rules.specs.FirstLists.{remaining}

abbrev Lists : Type 0
Lists = List (List Literal)

-- what is in a place
pub left_at : (gone : List Bool) (lists : Lists) (k : ℕ) → length gone ≤ length lists → get_or (remaining gone lists) k None ≡ cond (get_or gone k true) None (Some (get_or lists k []))
left_at [] [] k few = refl
left_at [] (lits ∷ lists) k few = refl
left_at (g ∷ gone) [] k few = absurd (omega arith)
left_at (true ∷ gone) (lits ∷ lists) zero few = refl
left_at (false ∷ gone) (lits ∷ lists) zero few = refl
left_at (true ∷ gone) (lits ∷ lists) (suc k) few = left_at gone lists k (omega arith)
left_at (false ∷ gone) (lits ∷ lists) (suc k) few = left_at gone lists k (omega arith)

some_where : (b : Bool) (lits : List Literal) → is_some (cond b None (Some lits)) ≡ not b
some_where true lits = refl
some_where false lits = refl

pub has_left : (gone : List Bool) (lists : Lists) (k : ℕ) → length gone ≤ length lists → is_some (get_or (remaining gone lists) k None) ≡ not (get_or gone k true)
has_left gone lists k few = ap is_some (left_at gone lists k few) ∙ some_where (get_or gone k true) (get_or lists k [])

-- a list that is left is under a number of the formula
pub list_left : (gone : List Bool) (lists : Lists) (k : ℕ) → length gone ≤ length lists + 1 → get_or gone 0 true ≡ true → is_some (get_or (remaining gone ([] ∷ lists)) k None) ≡ true
    → (1 ≤ k) × (k ≤ length lists) × (get_or (remaining gone ([] ∷ lists)) k None ≡ Some (get_or lists (k - 1) []))
list_left gone lists zero few none some =
    let went = has_left gone ([] ∷ lists) 0 (omega arith) in
    absurd (true≢false (sym some ∙ went ∙ ap not none))
list_left gone lists (suc k) few none some =
    let went = has_left gone ([] ∷ lists) (suc k) (omega arith) in
    let stays : get_or gone (suc k) true ≡ false = not_true (get_or gone (suc k) true) (sym went ∙ some) in
    let inside : suc k < length gone = inside_of gone (suc k) stays in
    let less : k ≤ length lists = omega arith in
    let back : k ≡ suc k - 1 = omega arith in (
      omega arith,
      omega arith,
      left_at gone ([] ∷ lists) (suc k) (omega arith) ∙ ap (λ b. cond b None (Some (get_or lists k []))) stays ∙ ap (λ i. Some (get_or lists i [])) back,
    )
  where
    not_true : (b : Bool) → not b ≡ true → b ≡ false
    not_true true h = absurd (true≢false (sym h))
    not_true false h = refl

    inside_of : (xs : List Bool) (i : ℕ) → get_or xs i true ≡ false → i < length xs
    inside_of [] i h = absurd (true≢false h)
    inside_of (x ∷ xs) zero h = omega arith
    inside_of (x ∷ xs) (suc i) h = let less = inside_of xs i h in omega arith

-- a list that goes
pub left_without : (gone : List Bool) (lists : Lists) (k : ℕ) → remaining (set gone k true) lists ≡ set (remaining gone lists) k None
left_without [] lists k = refl
left_without (true ∷ gone) [] zero = refl
left_without (true ∷ gone) [] (suc k) = refl
left_without (false ∷ gone) [] zero = refl
left_without (false ∷ gone) [] (suc k) = refl
left_without (true ∷ gone) (lits ∷ lists) zero = refl
left_without (false ∷ gone) (lits ∷ lists) zero = refl
left_without (true ∷ gone) (lits ∷ lists) (suc k) = ap (λ places. None ∷ places) (left_without gone lists k)
left_without (false ∷ gone) (lits ∷ lists) (suc k) = ap (λ places. Some lits ∷ places) (left_without gone lists k)

-- none went
pub all_left : (lists : Lists) → remaining (replicate (length lists) false) lists ≡ map Some lists
all_left [] = refl
all_left (lits ∷ lists) = ap (λ places. Some lits ∷ places) (all_left lists)

pub length-left : (gone : List Bool) (lists : Lists) → length gone ≤ length lists → length (remaining gone lists) ≡ length gone
length-left [] [] few = refl
length-left [] (lits ∷ lists) few = refl
length-left (g ∷ gone) [] few = absurd (omega arith)
length-left (true ∷ gone) (lits ∷ lists) few = ap suc (length-left gone lists (omega arith))
length-left (false ∷ gone) (lits ∷ lists) few = ap suc (length-left gone lists (omega arith))

-- there are no more lists of a kind than constraints
pub few_clauses : (cs : List Constraint) → length (clauses_of cs) ≤ length cs
unfolding clauses_of
few_clauses [] = omega arith
few_clauses (constraint.Clause lits ∷ cs) = omega (arith, few_clauses cs)
few_clauses (constraint.Parity lits ∷ cs) = omega (arith, few_clauses cs)
few_clauses (constraint.Assume lits ∷ cs) = omega (arith, few_clauses cs)

pub few_parities : (cs : List Constraint) → length (parities_of cs) ≤ length cs
unfolding parities_of
few_parities [] = omega arith
few_parities (constraint.Clause lits ∷ cs) = omega (arith, few_parities cs)
few_parities (constraint.Parity lits ∷ cs) = omega (arith, few_parities cs)
few_parities (constraint.Assume lits ∷ cs) = omega (arith, few_parities cs)
