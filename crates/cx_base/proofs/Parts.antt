-- The clauses, the parities and the assumptions of one constraint more.
use Rattle.std.proofs.Common.{◌≡◌, ap, ◌∙◌, ℕ, zero, suc, ◌+◌, ◌-◌, ◌≤◌, List, [], ◌∷◌, ◌++◌, length, take, append-nil, Some, arith}
use Rattle.std.specs.Prelude.{slice_get}
use Rattle.std.proofs.lemmas.List.Elements.{filter_map-append}
use Rattle.std.proofs.lemmas.Grind.{flat_map-append}
use Rattle.cx_base.specs.Literals.{Literal}
use Rattle.cx_base.specs.Problem.{clause_in, parity_in, clauses_of, parities_of}
use Rattle.cx_base.specs.Assumptions.{assumed_by, assumptions_of}
use Rattle.cx_base.specs.declared.constraint.Constraint.{Constraint}
use Rattle.cx_base.specs.declared.constraint.Constraint.TheVariants.{Clause, Parity, Assume}

pub clauses_of-clause : (cs : List Constraint) (lits : List Literal) → clauses_of (cs ++ Clause lits ∷ []) ≡ clauses_of cs ++ lits ∷ []
unfolding clauses_of
clauses_of-clause cs lits = filter_map-append clause_in cs (Clause lits ∷ [])

pub clauses_of-parity : (cs : List Constraint) (lits : List Literal) → clauses_of (cs ++ Parity lits ∷ []) ≡ clauses_of cs
unfolding clauses_of
clauses_of-parity cs lits = filter_map-append clause_in cs (Parity lits ∷ []) ∙ append-nil (clauses_of cs)

pub parities_of-clause : (cs : List Constraint) (lits : List Literal) → parities_of (cs ++ Clause lits ∷ []) ≡ parities_of cs
unfolding parities_of
parities_of-clause cs lits = filter_map-append parity_in cs (Clause lits ∷ []) ∙ append-nil (parities_of cs)

pub parities_of-parity : (cs : List Constraint) (lits : List Literal) → parities_of (cs ++ Parity lits ∷ []) ≡ parities_of cs ++ lits ∷ []
unfolding parities_of
parities_of-parity cs lits = filter_map-append parity_in cs (Parity lits ∷ [])

pub assumptions_of-push : (cs : List Constraint) (c : Constraint) → assumptions_of (cs ++ c ∷ []) ≡ assumptions_of cs ++ assumed_by c
unfolding assumptions_of
assumptions_of-push cs c = flat_map-append assumed_by cs (c ∷ []) ∙ ap (λ xs. assumptions_of cs ++ xs) (append-nil (assumed_by c))

-- ---- the constraints of a kind by their numbers, from 1

taken_at : {X : Type 0} (xs : List X) (k : ℕ) (x : X) → slice_get xs k ≡ Some x → take (suc k) xs ≡ take k xs ++ x ∷ []
taken_at [] k x e = cc
taken_at (y ∷ xs) zero x e = let same : y ≡ x = cc in ap (λ z. z ∷ []) same
taken_at (y ∷ xs) (suc k) x e = ap (λ zs. y ∷ zs) (taken_at xs k x e)

pub one_numbered_more : {X : Type 0} (xs : List X) (number : ℕ) (x : X) → 1 ≤ number → slice_get xs (number - 1) ≡ Some x → take number xs ≡ take (number - 1) xs ++ x ∷ []
one_numbered_more xs number x low e = (let next : number ≡ suc (number - 1) = omega arith in ap (λ n. take n xs) next) ∙ taken_at xs (number - 1) x e

-- none is of both kinds
pub both_kinds : (cs : List Constraint) → length (clauses_of cs) + length (parities_of cs) ≤ length cs
unfolding clauses_of parities_of
both_kinds [] = omega arith
both_kinds (Clause lits ∷ cs) = let rest = both_kinds cs in omega (arith, rest)
both_kinds (Parity lits ∷ cs) = let rest = both_kinds cs in omega (arith, rest)
both_kinds (Assume lits ∷ cs) = let rest = both_kinds cs in omega (arith, rest)
