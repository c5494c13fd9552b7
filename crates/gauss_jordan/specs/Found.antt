-- What rows say under masks of the columns that are assigned and true.
use Rattle.std.specs.Prelude.{◌≡◌, ◌≢◌, ℕ, ◌-◌, ◌<◌, Bool, true, false, not, List, length, slice_index, slice_index_or, None}
use Rattle.gf2_matrix.specs.Totals.{total}
use Rattle.cx_base.specs.Literals.{differ}
use Rattle.gf2_rows.specs.Bits.{bit_of}
use Rattle.gf2_matrix.specs.Content.{Content, row_at, equation, form, has, IsOpenAt, HoldsValues}
use Rattle.gauss_jordan.specs.declared.found.RowKind.{RowKind}
use Rattle.gauss_jordan.specs.declared.found.RowKind.TheVariants.{Met, Unmet, Unit, Open}
use Rattle.gauss_jordan.specs.declared.found.FoundRow.{FoundRow}
use Rattle.gauss_jordan.specs.declared.found.FoundRow.TheVariants.{Nothing, Literal, Contradiction}
use Rattle.parity_engine.specs.State.{State, is_unassigned, IsSilent, IsImplied, IsBroken}
use Rattle.gauss_jordan.specs.System.{filled}

-- no column of the row is open but perhaps one
abbrev pub IsClosed : Content → List ℕ → ℕ → Type 0
IsClosed c assigned r = (x : ℕ) → IsOpenAt c assigned x → has (row_at c.rows r) x ≡ false

abbrev pub IsClosedBut : Content → List ℕ → ℕ → ℕ → Type 0
IsClosedBut c assigned r k = (x : ℕ) → IsOpenAt c assigned x → x ≢ slice_index c.columns k - 1 → has (row_at c.rows r) x ≡ false

-- the row's sum over the values that the mask of true columns holds
abbrev pub SumsTo : Content → List ℕ → ℕ → Bool → Type 0
SumsTo c truths r b = (v : List Bool) → length v ≡ c.vars → HoldsValues c truths v → differ (total (equation (row_at c.rows r)) v) (row_at c.rows r).right ≡ b

abbrev pub IsKind : Content → List ℕ → List ℕ → ℕ → RowKind → Type 0
IsKind c assigned truths r Met = IsClosed c assigned r × SumsTo c truths r false
IsKind c assigned truths r Unmet = IsClosed c assigned r × SumsTo c truths r true
IsKind c assigned truths r (Unit k b) =
    (k < length c.columns) × (bit_of assigned k ≡ false) × (has (row_at c.rows r) (slice_index c.columns k - 1) ≡ true) × IsClosedBut c assigned r k × SumsTo c truths r b
IsKind c assigned truths r Open =
    (x y : ℕ) × IsOpenAt c assigned x × IsOpenAt c assigned y × (y ≢ x) × (has (row_at c.rows r) x ≡ true) × (has (row_at c.rows r) y ≡ true)

-- the masks are those of the state
pub record IsMasked (s : State) (c : Content) (assigned truths : List ℕ) : Type 0 where
  pub vars : s.vars ≡ c.vars
  pub parities : s.parities ≡ c.given
  pub wide : length s.values ≡ s.vars
  pub masks : (k : ℕ) → k < length c.columns → bit_of assigned k ≡ not (is_unassigned (slice_index_or s.values (slice_index c.columns k - 1) None))
  pub holds : HoldsValues c truths (filled s)

-- what the rows say of each state with these masks
abbrev pub Shows : Content → List ℕ → List ℕ → FoundRow → Type 0
Shows c assigned truths Nothing = (s : State) → IsMasked s c assigned truths → IsSilent s
Shows c assigned truths (Literal r k b) =
    (r < length c.rows) × (k < length c.columns)
    × ((s : State) → IsMasked s c assigned truths → IsImplied s (record { variable = slice_index c.columns k; negative = not b }) (form (row_at c.rows r)))
Shows c assigned truths (Contradiction r) = (r < length c.rows) × ((s : State) → IsMasked s c assigned truths → IsBroken s (form (row_at c.rows r)))
