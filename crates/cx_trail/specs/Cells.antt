-- What a trail keeps: a cell for each variable, of which those of the assigned ones come first and in order, the places of these, and each literal's value.
use Rattle.std.specs.Prelude.{ℕ, ◌+◌, ◌*◌, ◌<◌, ◌≤◌, ◌≡◌, List, length, get_or, take}
use Rattle.cx_base.specs.Literals.{Literal, negate, code_of}
use Rattle.cx_base.specs.declared.literal.TheConstants.{MAX_VARIABLE}
use Rattle.cx_trail.specs.declared.entry.Entry.{Entry}
use Rattle.cx_trail.specs.declared.entry.Reason.TheVariants.{Decision}
use Rattle.cx_trail.specs.declared.entry.Truth.{Truth}
use Rattle.cx_trail.specs.declared.entry.Truth.TheVariants.{True, False, Open}
use Rattle.cx_trail.specs.Sequence.{entry_at}

abbrev pub var_at : List Entry → ℕ → ℕ
var_at cells i = (entry_at cells i).literal.variable

abbrev pub truth_at : List Truth → ℕ → Truth
truth_at truths code = get_or truths code Open

-- each variable has one cell, and each cell one variable
pub record ArePaired (vars : ℕ) (cells : List Entry) (places : List ℕ) : Type 0 where
  pub cell_count : length cells ≡ vars
  pub place_count : length places ≡ vars + 1
  pub in_cells : (v : ℕ) → 1 ≤ v → v ≤ vars → get_or places v 0 < vars
  pub has : (v : ℕ) → 1 ≤ v → v ≤ vars → var_at cells (get_or places v 0) ≡ v
  pub placed : (i : ℕ) → i < vars → get_or places (var_at cells i) 0 ≡ i
  pub low : (i : ℕ) → i < vars → 1 ≤ var_at cells i
  pub high : (i : ℕ) → i < vars → var_at cells i ≤ vars

-- the cells have different variables, each within their number
pub record AreApart (cells : List Entry) : Type 0 where
  pub once : (i j : ℕ) → i < length cells → j < length cells → var_at cells i ≡ var_at cells j → i ≡ j
  pub within : (i : ℕ) → i < length cells → var_at cells i ≤ length cells

-- by code: the literals of the first len cells are true and their negations false, and those of the other cells' variables are open
pub record AreTruths (vars len : ℕ) (cells : List Entry) (truths : List Truth) : Type 0 where
  pub size : length truths ≡ 2 * vars + 2
  pub held : (i : ℕ) → i < len → truth_at truths (code_of (entry_at cells i).literal) ≡ True
  pub denied : (i : ℕ) → i < len → truth_at truths (code_of (negate (entry_at cells i).literal)) ≡ False
  pub unset : (i : ℕ) → len ≤ i → i < vars → (l : Literal) → l.variable ≡ var_at cells i → truth_at truths (code_of l) ≡ Open

-- levels of the first len cells
pub record AreLevels (level len : ℕ) (cells : List Entry) : Type 0 where
  pub top : (i : ℕ) → i < len → (entry_at cells i).level ≤ level
  pub rising : (i j : ℕ) → i ≤ j → j < len → (entry_at cells i).level ≤ (entry_at cells j).level
  pub low : (i : ℕ) → i < len → (entry_at cells i).level ≤ i + 1
  pub opens : (i j : ℕ) → i < j → j < len → 0 < (entry_at cells j).level → (entry_at cells j).reason ≡ Decision → (entry_at cells i).level < (entry_at cells j).level
  pub decided : (k : ℕ) → 1 ≤ k → k ≤ level → (i : ℕ) × (i < len) × ((entry_at cells i).level ≡ k) × ((entry_at cells i).reason ≡ Decision)

-- an order of all variables, the assigned ones first, with the place of each
pub record IsWhole (vars level len : ℕ) (cells : List Entry) (places : List ℕ) (truths : List Truth) : Type 0 where
  pub few : vars ≤ MAX_VARIABLE
  pub short : len ≤ vars
  pub paired : ArePaired vars cells places
  pub levels : AreLevels level len cells
  pub valued : AreTruths vars len cells truths

-- The cells begin with the assigned literals, whose places are known. The others say nothing: it is enough that some order of all variables begins so.
pub record IsKept (vars level len : ℕ) (cells : List Entry) (places : List ℕ) (truths : List Truth) : Type 0 where
  pub whole : List Entry
  pub spots : List ℕ
  pub is_whole : IsWhole vars level len whole spots truths
  pub begins : take len whole ≡ take len cells
  pub room : length cells ≡ vars
  pub slots : length places ≡ vars + 1
  pub placed : (i : ℕ) → i < len → get_or places (var_at cells i) 0 ≡ i
