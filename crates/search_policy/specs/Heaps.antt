-- A binary heap of variables by their scores. A variable is named by its number less 1 here.
use Rattle.std.specs.Prelude.{ℕ, ◌+◌, ◌-◌, ◌/◌, ◌≡◌, ◌≢◌, ◌<◌, ◌≤◌, ◌⊎◌, List, length, get_or}
use Rattle.cx_trail.specs.declared.entry.Entry.{Entry}
use Rattle.cx_trail.specs.Sequence.{IsOpenIn}

abbrev pub item_at : List ℕ → ℕ → ℕ
item_at xs i = get_or xs i 0

-- u comes before v: a greater score, or the same one and a smaller number
abbrev pub IsAhead : List ℕ → ℕ → ℕ → Type 0
IsAhead scores u v = (item_at scores v < item_at scores u) ⊎ ((item_at scores u ≡ item_at scores v) × (u ≤ v))

-- each of the n variables has one cell, and its place is known
pub record AreShuffled (n : ℕ) (cells places : List ℕ) : Type 0 where
  pub cell_count : length cells ≡ n
  pub place_count : length places ≡ n
  pub inside : (i : ℕ) → i < n → item_at cells i < n
  pub placed : (i : ℕ) → i < n → item_at places (item_at cells i) ≡ i
  pub in_cells : (v : ℕ) → v < n → item_at places v < n
  pub has : (v : ℕ) → v < n → item_at cells (item_at places v) ≡ v

-- the cell above cell i
abbrev pub parent : ℕ → ℕ
parent i = (i - 1) / 2

-- of the first count cells each comes after the one above it
abbrev pub IsHeap : List ℕ → List ℕ → ℕ → Type 0
IsHeap scores cells count = (i : ℕ) → 1 ≤ i → i < count → IsAhead scores (item_at cells (parent i)) (item_at cells i)

-- a heap but for cell k, which may have to rise
pub record IsRising (scores cells : List ℕ) (count k : ℕ) : Type 0 where
  pub others : (i : ℕ) → 1 ≤ i → i < count → i ≢ k → IsAhead scores (item_at cells (parent i)) (item_at cells i)
  pub below : (i : ℕ) → 1 ≤ i → i < count → parent i ≡ k → 1 ≤ k → IsAhead scores (item_at cells (parent k)) (item_at cells i)

-- a heap but for cell k, which may have to sink
pub record IsSinking (scores cells : List ℕ) (count k : ℕ) : Type 0 where
  pub others : (i : ℕ) → 1 ≤ i → i < count → parent i ≢ k → IsAhead scores (item_at cells (parent i)) (item_at cells i)
  pub below : (i : ℕ) → 1 ≤ i → i < count → parent i ≡ k → 1 ≤ k → IsAhead scores (item_at cells (parent k)) (item_at cells i)

-- two cells have changed places
pub record IsSwapped (i j : ℕ) (old new : List ℕ) : Type 0 where
  pub first : item_at new i ≡ item_at old j
  pub second : item_at new j ≡ item_at old i
  pub others : (k : ℕ) → k ≢ i → k ≢ j → item_at new k ≡ item_at old k

-- no cell from count on has changed
abbrev pub AreSameFrom : ℕ → List ℕ → List ℕ → Type 0
AreSameFrom count old new = (i : ℕ) → count ≤ i → item_at new i ≡ item_at old i

-- the better one of the cells from first to first + 1 that are below count
pub record IsBetterChild (scores cells : List ℕ) (count first child : ℕ) : Type 0 where
  pub is : (child ≡ first) ⊎ (child ≡ first + 1)
  pub within : child < count
  pub ahead : (i : ℕ) → i < count → (i ≡ first) ⊎ (i ≡ first + 1) → IsAhead scores (item_at cells child) (item_at cells i)

-- each unassigned variable has a place below count
abbrev pub HasOpenOnes : ℕ → List Entry → List ℕ → ℕ → Type 0
HasOpenOnes n entries places count = (v : ℕ) → v < n → IsOpenIn entries (v + 1) → item_at places v < count

-- what an order keeps
pub record IsOrder (scores cells places : List ℕ) (count : ℕ) : Type 0 where
  pub shuffled : AreShuffled (length scores) cells places
  pub heap : IsHeap scores cells count
  pub few : count ≤ length scores
