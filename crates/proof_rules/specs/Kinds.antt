-- The table of a kind of constraint, and the lists that hints name in it.
use Rattle.std.specs.Prelude.{◌≡◌, ◌&&◌, ℕ, ℤ, Bool, true, false, not, nat_abs, List}
use Rattle.std.specs.List.{list_any, list_all}
use Rattle.std.specs.Ordering.{nat_cmp, eq_by_cmp}
use Rattle.cx_base.specs.Literals.{Literal}
use Rattle.cx_base.specs.Integers.{is_negative, sizes}
use Rattle.cx_base.specs.declared.id_moves.IdMove.{IdMove}
use Rattle.cx_semantics.specs.Tables.{Table, Tables, is_live, named, put_clause, put_parity, drop_clauses, drop_parities, move_clauses, move_parities}
use Rattle.proof_rules.specs.declared.live.Kind.{Kind}
use Rattle.proof_rules.specs.declared.live.Kind.TheVariants.{Clauses, Parities}

-- the table of a kind, what it gains, what goes out of it, and what comes under other ids
abbrev pub chosen : Kind → Tables → Table
chosen Clauses tables = tables.clauses
chosen Parities tables = tables.parities

abbrev pub put_constraint : Kind → Tables → ℕ → List Literal → Tables
put_constraint Clauses tables n lits = put_clause tables n lits
put_constraint Parities tables n lits = put_parity tables n lits

abbrev pub drop_constraints : Kind → Tables → List ℕ → Tables
drop_constraints Clauses tables ids = drop_clauses tables ids
drop_constraints Parities tables ids = drop_parities tables ids

abbrev pub move_constraints : Kind → Tables → List IdMove → Tables
move_constraints Clauses tables moves = move_clauses tables moves
move_constraints Parities tables moves = move_parities tables moves

abbrev pub is_clauses : Kind → Bool
is_clauses Clauses = true
is_clauses Parities = false

-- the lists that the hints name, in order and with repeats
abbrev pub hinted : Table → List ℤ → List (List Literal)
hinted table hints = named table (sizes hints)

-- a hint is not negative and names a live list, and so does each of the hints
abbrev pub names_live : Table → ℤ → Bool
names_live table z = not (is_negative z) && is_live table (nat_abs z)

abbrev pub all_named : Table → List ℤ → Bool
all_named table hints = list_all (names_live table) hints

-- an id is live exactly where it is in the list
abbrev pub ListsLive : Table → List ℕ → Type 0
ListsLive table ids = (n : ℕ) → list_any (eq_by_cmp nat_cmp n) ids ≡ is_live table n
