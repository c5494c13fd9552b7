-- For each variable a list of clauses.
use Rattle.std.specs.Prelude.{◌≡◌, ℕ, Bool, true, List, [], get_or, Contains}
use Rattle.std.specs.List.{All}
use Rattle.cx_base.specs.Literals.{Literal}

-- the list of a variable
abbrev pub list_of : List (List ℕ) → ℕ → List ℕ
list_of lists v = get_or lists v []

-- whether it is a chosen variable: where none was named, all are
abbrev pub is_chosen : List Bool → ℕ → Bool
is_chosen chosen v = get_or chosen v true

-- the clause is in the list of each chosen variable of these literals
abbrev pub IsListed : List (List ℕ) → List Bool → List Literal → ℕ → Type 0
IsListed lists chosen lits r = All (λ l. is_chosen chosen l.variable ≡ true → Contains (list_of lists l.variable) r) lits

-- what was in a list is in it
abbrev pub KeepsEntries : List (List ℕ) → List (List ℕ) → Type 0
KeepsEntries old new = (v r : ℕ) → Contains (list_of old v) r → Contains (list_of new v) r
