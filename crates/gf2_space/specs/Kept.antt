-- How a space is kept: rows in echelon form, for each variable the row whose least it is, and the free variables.
use Rattle.std.specs.Prelude.{◌≡◌, ℕ, ◌+◌, ◌-◌, ◌<◌, Bool, true, false, cond, eqb, List, map, length, slice_index}
use Rattle.std.specs.List.{range_with_len}
use Rattle.parity_engine.specs.Written.{AreRising}
use Rattle.gf2_matrix.specs.Content.{Content, row_at, has, IsLeastOf, IsEchelonRow}
use Rattle.gf2_lists.specs.Echelon.{SayGiven}
use Rattle.gf2_space.specs.Spaces.{AffineSpace}

-- for each variable the number, from 1, of the row whose least it is, or 0
pub record AreOwners (c : Content) (owners : List ℕ) : Type 0 where
  pub long : length owners ≡ c.vars
  pub owned : (x r : ℕ) → x < c.vars → slice_index owners x ≡ r + 1 → (r < length c.rows) × IsLeastOf c r x
  pub found : (x r : ℕ) → r < length c.rows → IsLeastOf c r x → slice_index owners x ≡ r + 1

-- of the first n variables those without a row, rising
pub record AreUnowned (owners free : List ℕ) (n : ℕ) : Type 0 where
  pub rising : AreRising 1 n free
  pub unowned : (i : ℕ) → i < length free → slice_index owners (slice_index free i - 1) ≡ 0
  pub all : (x : ℕ) → x < n → slice_index owners x ≡ 0 → (i : ℕ) × (i < length free) × (slice_index free i ≡ x + 1)

-- the rows have a solution
abbrev pub HasNoClash : Content → Type 0
HasNoClash c = (r : ℕ) → r < length c.rows → ((x : ℕ) → has (row_at c.rows r) x ≡ false) → (row_at c.rows r).right ≡ false

-- a row says that 0 is 1
abbrev pub HasClash : Content → Type 0
HasClash c = (r : ℕ) × (r < length c.rows) × ((x : ℕ) → has (row_at c.rows r) x ≡ false) × ((row_at c.rows r).right ≡ true)

pub record IsKept (c : Content) (owners free : List ℕ) : Type 0 where
  pub say : SayGiven c
  pub echelon : (r : ℕ) → r < length c.rows → IsEchelonRow c r
  pub no_clash : HasNoClash c
  pub owners_are : AreOwners c owners
  pub free_are : AreUnowned owners free c.vars

-- a value that is false where the variable at x has no row
abbrev pub by_owner : List ℕ → (ℕ → Bool) → ℕ → Bool
by_owner owners f x = cond (eqb (slice_index owners x) 0) false (f (slice_index owners x - 1))

-- at the least variable of a row its right side
abbrev pub point_value : Content → List ℕ → ℕ → Bool
point_value c owners x = by_owner owners (λ r. (row_at c.rows r).right) x

-- the variable v itself, and the least variables of the rows that have v
abbrev pub vector_bit : Content → List ℕ → ℕ → ℕ → Bool
vector_bit c owners v x = cond (eqb x (v - 1)) true (by_owner owners (λ r. has (row_at c.rows r) (v - 1)) x)

abbrev pub vector_of : Content → List ℕ → ℕ → List Bool
vector_of c owners v = map (vector_bit c owners v) (range_with_len 0 c.vars)

abbrev pub space_of : Content → List ℕ → List ℕ → AffineSpace
space_of c owners free = record {
  vars = c.vars;
  parities = c.given;
  free = free;
  point = map (point_value c owners) (range_with_len 0 c.vars);
  vectors = map (vector_of c owners) free;
}
