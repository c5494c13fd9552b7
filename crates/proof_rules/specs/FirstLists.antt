-- The lists that a table has from a formula.
use Rattle.std.specs.Prelude.{◌≡◌, ◌≢◌, ℕ, List, [], ◌∷◌, ◌++◌, get_or, Option, None, Some, Bool, true, false}
use Rattle.std.specs.FinMap as map
use Rattle.cx_base.specs.declared.id_moves.IdMove.{IdMove}
use Rattle.cx_base.specs.Literals.{Literal}
use Rattle.cx_base.specs.Problem.{clauses_of, parities_of}
use Rattle.cx_semantics.specs.Tables.{Table}
use Rattle.proof_rules.specs.Places.{entries_of}
use Rattle.proof_rules.specs.declared.first.Numbered.{Numbered}
use Rattle.proof_rules.specs.declared.first.Numbered.TheVariants.{Clauses, Parities}

-- the lists of a kind of constraint, in order
abbrev pub lists_of : Numbered → List (List Literal)
lists_of (Clauses formula) = clauses_of formula.now.constraints
lists_of (Parities formula) = parities_of formula.now.constraints

-- the lists that did not go, each in its place
abbrev pub remaining : List Bool → List (List Literal) → List (Option (List Literal))
remaining (true ∷ gone) (lits ∷ lists) = None ∷ remaining gone lists
remaining (false ∷ gone) (lits ∷ lists) = Some lits ∷ remaining gone lists
remaining gone lists = []

-- the list is under this number, and under each other is what was there
abbrev pub StandsThere : ℕ → List Literal → List (Option (List Literal)) → List (Option (List Literal)) → Type 0
StandsThere n lits old new = (get_or new n None ≡ Some lits) × ((q : ℕ) → q ≢ n → get_or new q None ≡ get_or old q None)

-- no list is under an id of the moves, old or new
abbrev pub AreElsewhere : List (Option (List Literal)) → List IdMove → Type 0
AreElsewhere lists [] = Unit {0}
AreElsewhere lists (m ∷ moves) = ((get_or lists m.from None ≡ None) × (get_or lists m.to None ≡ None)) × AreElsewhere lists moves

-- under each id the list in its place, or else that of the table
abbrev pub behind : List (Option (List Literal)) → Table → Table
behind lists table = map.from_entries (entries_of lists ++ map.entries table)
