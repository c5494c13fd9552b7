-- For each column the variables whose rows have it.
use Rattle.std.specs.Prelude.{◌≡◌, ℕ, ◌-◌, ◌<◌, Bool, cond, List, [], ◌∷◌, ◌++◌, map, length, slice_index, slice_index_or}
use Rattle.std.specs.List.{range_with_len}
use Rattle.parity_engine.specs.Equations.{numbers_from}
use Rattle.gf2_matrix.specs.Content.{Content, row_at, has}
use Rattle.gf2_space.specs.Kept.{by_owner}
use Rattle.gf2_space.specs.declared.supports.Support.{Support}

-- the row whose least variable is at x has the variable v
abbrev pub is_support : Content → List ℕ → ℕ → ℕ → Bool
is_support c owners v x = by_owner owners (λ r. has (row_at c.rows r) (v - 1)) x

-- those of the first n variables, rising
abbrev pub support : Content → List ℕ → ℕ → ℕ → List ℕ
support c owners v n = numbers_from 1 (map (is_support c owners v) (range_with_len 0 n))

pub record AreEmpty (supports : List Support) (n : ℕ) : Type 0 where
  pub long : length supports ≡ n
  pub empty : (k : ℕ) (d : Support) → k < n → (slice_index_or supports k d).vars.items ≡ []

pub record AreSupports (c : Content) (owners : List ℕ) (supports : List Support) (n : ℕ) : Type 0 where
  pub long : length supports ≡ length c.columns
  pub each : (k : ℕ) (d : Support) → k < length c.columns → (slice_index_or supports k d).vars.items ≡ support c owners (slice_index c.columns k) n

-- the variable comes after those of the columns that the row has
pub record TakeRow (c : Content) (row var : ℕ) (old new : List Support) : Type 0 where
  pub long : length new ≡ length old
  pub each : (k : ℕ) (d : Support) → k < length c.columns
      → (slice_index_or new k d).vars.items ≡ (slice_index_or old k d).vars.items ++ cond (has (row_at c.rows row) (slice_index c.columns k - 1)) (var ∷ []) []
