-- What stands for the ids of a log in its proof.
use Rattle.std.specs.Prelude.{◌≡◌, ◌≤◌, ℕ, ◌+◌, ℤ, pos, List, length, map, filter_map, Option, Some, is_some, IsTrue, refl}
use Rattle.std.specs.List.{AllByRecursion}
use Rattle.std.specs.Coded.{Coded, code_by, coded×, coded_ℕ}
use Rattle.std.specs.Ordering.{nat_cmp}
use Rattle.std.specs.FinMap as map_
use Rattle.cx_base.specs.Problem.{Problem, clauses_of, parities_of}
use Rattle.cx_base.specs.declared.id_moves.IdMove.{IdMove}
use Rattle.cx_semantics.specs.Moves.{moved}
use Rattle.fratx_elab.specs.declared.naming.TheConstants.{MAX_ID}

-- the proof id that stands for each live id of the log, and the last id that was given in the proof
pub record Naming : Type 0 where
  pub ids : map_.FinMap nat_cmp ℕ
  pub last : ℕ

-- clause ids and parity ids are separate sets of names, each with a counter of its own
pub record Names : Type 0 where
  pub clauses : Naming
  pub parities : Naming

abbrev pub stands_for : Naming → ℕ → Option ℕ
stands_for naming n = map_.get naming.ids n

-- the hints by which a proof names what a log names by these ids
abbrev pub hints_for : Naming → List ℕ → List ℤ
hints_for naming ids = map pos (filter_map (stands_for naming) ids)

-- something stands for each of the ids
abbrev pub AreNamed : Naming → List ℕ → Type 0
AreNamed naming ids = AllByRecursion (λ n. IsTrue (is_some (stands_for naming n))) ids

-- a proof may have the id
abbrev pub IsProofId : ℕ → Type 0
IsProofId n = (1 ≤ n) × (n ≤ MAX_ID)

-- each id stands for one that a proof may have
abbrev pub StandForProofIds : Naming → Type 0
StandForProofIds naming = (n p : ℕ) → stands_for naming n ≡ Some p → IsProofId p

-- no id stands for another one, as in a log that counts as its proof does
abbrev pub StandForThemselves : Naming → Type 0
StandForThemselves naming = (n p : ℕ) → stands_for naming n ≡ Some p → p ≡ n

-- the formula's constraints have the first ids
abbrev pub first_naming : ℕ → Naming
first_naming count = record { ids = map_.empty; last = count }

abbrev pub first_names : Problem → Names
first_names formula = record { clauses = first_naming (length (clauses_of formula.constraints)); parities = first_naming (length (parities_of formula.constraints)) }

-- number k stands for the id n
abbrev pub name_original : Naming → ℕ → ℕ → Naming
name_original naming n k = record { ids = map_.insert naming.ids n k; last = naming.last }

-- the next id stands for the id n
abbrev pub name_next : Naming → ℕ → Naming
name_next naming n = record { ids = map_.insert naming.ids n (naming.last + 1); last = naming.last + 1 }

abbrev pub drop_name : Naming → ℕ → Naming
drop_name naming n = record { ids = map_.remove naming.ids n; last = naming.last }

-- what stood for an id of the log stands for the new one, all at once
abbrev pub move_names : Naming → List IdMove → Naming
move_names naming moves = record { ids = moved naming.ids moves; last = naming.last }

abbrev pub naming_code : Coded Naming
naming_code = code_by (map_.FinMap nat_cmp ℕ × ℕ) (coded× (map_.code coded_ℕ coded_ℕ) coded_ℕ) (λ a. (a.ids, a.last)) (λ p. record { ids = p.0; last = p.1 }) (λ _. refl)
