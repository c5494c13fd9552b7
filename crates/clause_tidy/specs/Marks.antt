-- Marks of literals.
use Rattle.std.specs.Prelude.{◌≡◌, ℕ, ◌*◌, ◌<◌, Bool, false, List, length, get_or}
use Rattle.std.specs.List.{All}
use Rattle.cx_base.specs.Literals.{Literal, code_of}
use Rattle.cx_semantics.specs.Chain.{has_literal}
use Rattle.clause_tidy.specs.Shortened.{AreDifferent}

abbrev pub is_marked : List Bool → Literal → Bool
is_marked marks l = get_or marks (code_of l) false

-- just these literals are marked
abbrev pub AreMarksOf : List Bool → List Literal → Type 0
AreMarksOf marks lits = (l : Literal) → is_marked marks l ≡ has_literal lits l

abbrev pub AreClear : List Bool → Type 0
AreClear marks = (l : Literal) → is_marked marks l ≡ false

-- there is a mark for each of the two literals of so many variables, and none is set
pub record AreClearFor (variables : ℕ) (marks : List Bool) : Type 0 where
  pub long : length marks ≡ 2 * variables
  pub clear : AreClear marks

-- there is room for marks of these literals
abbrev pub HaveRoom : List Bool → List Literal → Type 0
HaveRoom marks lits = All (λ l. code_of l < length marks) lits

-- so many literals of the list are different
pub record HasSoMany (lits : List Literal) (n : ℕ) : Type 0 where
  pub different : List Literal
  pub once : AreDifferent different
  pub same : (l : Literal) → has_literal different l ≡ has_literal lits l
  pub many : n ≡ length different
