-- Lists of literals as sets.
use Rattle.std.specs.Prelude.{◌≡◌, ◌≤◌, Bool, false, List, get_or, IsTrue}
use Rattle.std.specs.List.{AllByRecursion}
use Rattle.cx_base.specs.Literals.{Literal, code_of}
use Rattle.cx_semantics.specs.Chain.{has_literal}

-- no literal has the variable 0
abbrev pub ArePositive : List Literal → Type 0
ArePositive lits = AllByRecursion (λ l. 1 ≤ l.variable) lits

-- there is a mark at the codes of these literals, and at no other literal's
abbrev pub AreMarks : List Bool → List Literal → Type 0
AreMarks marks lits = (l : Literal) → get_or marks (code_of l) false ≡ has_literal lits l

-- a literal at whose code there is a mark is one of these
abbrev pub AreMarkedOnly : List Bool → List Literal → Type 0
AreMarkedOnly marks lits = (l : Literal) → IsTrue (get_or marks (code_of l) false) → IsTrue (has_literal lits l)
