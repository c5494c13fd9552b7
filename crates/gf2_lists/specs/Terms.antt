-- Lists of variables as rows of bits.
use Rattle.std.specs.Prelude.{ℕ, zero, suc, ◌+◌, Bool, true, false, cond, eqb, List, [], ◌∷◌, map}
use Rattle.cx_base.specs.Literals.{Literal}
use Rattle.gf2_matrix.specs.Content.{SourcedRow, Content}
use Rattle.gf2_lists.specs.declared.row.ListedRow.{ListedRow}

-- a bit for each of n variables from k on, set for those of a rising list
abbrev pub terms_from : ℕ → ℕ → List ℕ → List Bool
terms_from k zero list = []
terms_from k (suc n) [] = false ∷ terms_from (k + 1) n []
terms_from k (suc n) (y ∷ ys) = cond (eqb y k) (true ∷ terms_from (k + 1) n ys) (false ∷ terms_from (k + 1) n (y ∷ ys))

abbrev pub listed_row : ℕ → ListedRow → SourcedRow
listed_row n row = record { terms = terms_from 1 n row.vars.items; right = row.right; sources = [] }

-- rows over n variables, without the parities that they are sums of
abbrev pub listed : ℕ → List (List Literal) → List ℕ → List ListedRow → Content
listed n given columns rows = record { vars = n; given = given; columns = columns; rows = map (listed_row n) rows }
