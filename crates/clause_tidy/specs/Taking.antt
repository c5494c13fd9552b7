-- Units that are taken out of an arena.
use Rattle.std.specs.Prelude.{◌≡◌, ◌≢◌, ◌⊎◌, ℕ, ◌<◌, List, [], ◌∷◌, length, get_or}
use Rattle.cx_base.specs.Literals.{Literal}
use Rattle.clause_arena.specs.Clauses.{ArenaState, IsLive, literals_at, id_at}
use Rattle.clause_tidy.specs.Tautologies.{IsLeft}

-- the literal and the id are at one place of the two lists
abbrev pub Lists : List Literal → List ℕ → Literal → ℕ → Type 0
Lists units ids l n = (i : ℕ) × (i < length units) × (get_or units i l ≡ l) × (get_or ids i n ≡ n)

-- the clause has this one literal, and this id
abbrev pub IsUnitAt : ArenaState → ℕ → Literal → ℕ → Type 0
IsUnitAt a r l n = IsLive a r × (literals_at a r ≡ l ∷ []) × (id_at a r ≡ n)

-- What is left was there. What went is in the lists, and what is in them went.
pub record Takes (a b : ArenaState) (units : List Literal) (ids : List ℕ) : Type 0 where
  pub left : IsLeft a b
  pub each : length ids ≡ length units
  pub taken : (r : ℕ) → IsLive a r → IsLive b r ⊎ ((l : Literal) × (n : ℕ) × Lists units ids l n × IsUnitAt a r l n)
  pub there : (l : Literal) (n : ℕ) → Lists units ids l n → (r : ℕ) × IsUnitAt a r l n × (IsLive b r → ⊥)

-- a clause that is left has not just one literal
abbrev pub IsWide : ArenaState → ℕ → Type 0
IsWide a r = IsLive a r → length (literals_at a r) ≢ 1
