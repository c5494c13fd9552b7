-- Parities whose literals follow one another.
use Rattle.std.specs.Prelude.{ℕ, List, [], ◌∷◌, take, drop}
use Rattle.cx_base.specs.Literals.{Literal}

-- lists of these lengths, which follow one another
abbrev pub cut : List Literal → List ℕ → List (List Literal)
cut lits [] = []
cut lits (n ∷ ns) = take n lits ∷ cut (drop n lits) ns
