-- The printed form of a space.
use Rattle.std.specs.Prelude.{ℕ, ◌+◌, Bool, List, [], ◌∷◌, ◌++◌, flat_map, length, if◌then◌else◌, codes, decimal}
use Rattle.std.specs.List.{enumerate_from}
use Rattle.parity_engine.specs.Equations.{numbers_from}
use Rattle.gf2_space.specs.Spaces.{AffineSpace}

-- after a space, k for a true variable k, and -k for a false one
abbrev pub point_literal : ℕ × Bool → List ℕ
point_literal p = codes " " ++ (if p.1 then [] else codes "-") ++ decimal (p.0 + 1)

-- a variable after a space
abbrev pub listed_variable : ℕ → List ℕ
listed_variable v = codes " " ++ decimal v

-- a zero ends a line
abbrev pub line_end : List ℕ
line_end = codes " 0" ++ 10 ∷ []

-- the `b` line of a vector: its variables, rising, and a zero
abbrev pub vector_text : List Bool → List ℕ
vector_text vector = codes "b" ++ (flat_map listed_variable (numbers_from 1 vector) ++ line_end)

-- the `s` line with the dimension, the `t` line with the point's literals, and a line for each vector
abbrev pub affine_text : AffineSpace → List ℕ
affine_text s =
    codes "s AFFINE " ++ decimal (length s.free) ++ (10 ∷ codes "t") ++ flat_map point_literal (enumerate_from 0 s.point) ++ line_end ++ flat_map vector_text s.vectors
