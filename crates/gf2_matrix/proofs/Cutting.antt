-- Parities whose literals stand one behind the other.
use Rattle.std.proofs.Common.{◌≡◌, ℕ, ◌+◌, ◌≤◌, List, [], ◌∷◌, ◌++◌, take, drop, length, length-drop, refl, ap, arith}
use Rattle.std.specs.Prelude.{sum}
use Rattle.std.proofs.Math.Seq.{take-length}
use Rattle.std.proofs.lemmas.List.{take-append-le, drop-append-le}
use Rattle.std.proofs.lemmas.List.Sums.{sum_by-cons}
use Rattle.cx_base.specs.Literals.{Literal}
use Rattle.gf2_matrix.specs.Cutting.{cut}

pub length-cut : (lits : List Literal) (ns : List ℕ) → length (cut lits ns) ≡ length ns
length-cut lits [] = refl
length-cut lits (n ∷ ns) = let rest = length-cut (drop n lits) ns in omega arith

cut_one : (lits xs : List Literal) → 0 ≡ length lits → cut (lits ++ xs) (length xs ∷ []) ≡ xs ∷ []
cut_one [] xs none = ap (λ ys. ys ∷ []) (take-length xs)
cut_one (l ∷ lits) xs none = absurd (omega arith)

-- one more list behind the others
pub cut_more : (lits xs : List Literal) (ns : List ℕ) → sum ns ≡ length lits → cut (lits ++ xs) (ns ++ length xs ∷ []) ≡ cut lits ns ++ xs ∷ []
cut_more lits xs [] whole = cut_one lits xs whole
cut_more lits xs (n ∷ ns) whole =
    let all : sum (n ∷ ns) ≡ n + sum ns = sum_by-cons (λ k. k) n ns in
    let room : n ≤ length lits = omega arith in
    let rest = cut_more (drop n lits) xs ns (omega (arith, length-drop n lits)) in
    rw (take-append-le n lits xs room, drop-append-le n lits xs room) (ap (λ ls. take n lits ∷ ls) rest)
