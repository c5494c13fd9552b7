-- What an engine with copies of its named rows holds, and what it stands for.
use Rattle.std.specs.Prelude.{◌≡◌, ℕ, ◌<◌, ◌≤◌, ◌^◌, Bool, false, not, ◌&&◌, List, map, length, slice_index_or, Option, Some, None}
use Rattle.std.specs.List.{range_with_len}
use Rattle.cx_base.specs.Literals.{differ}
use Rattle.cx_base.specs.declared.literal.TheConstants.{MAX_VARIABLE}
use Rattle.cx_base.specs.Parity.{odd_sum}
use Rattle.gf2_rows.specs.Bits.{bit_of}
use Rattle.gf2_matrix.specs.Content.{Content, SourcedRow, IsOfGiven, form, has, row_at, source_numbers}
use Rattle.gf2_matrix.specs.Views.{words_for}
use Rattle.gauss_jordan.specs.declared.slot.RowSlot.{RowSlot}
use Rattle.parity_engine.specs.declared.state.Naming.{Naming}
use Rattle.parity_engine.specs.Namings.{keep_naming}
use Rattle.parity_engine.specs.declared.state.Held.{Held}
use Rattle.parity_engine.specs.declared.state.Mood.{Mood}
use Rattle.parity_engine.specs.State.{State, Named, is_unassigned}
use Rattle.gauss_jordan.specs.Right.{IsRightState, column_at}

-- the first n bits of words
abbrev pub first_bits : ℕ → List ℕ → List Bool
first_bits n words = map (bit_of words) (range_with_len 0 n)

-- the row that a slot keeps
abbrev pub row_of : Content → RowSlot → SourcedRow
row_of c slot = record { terms = first_bits c.vars slot.terms.items; right = slot.right; sources = first_bits (length c.given) slot.sources.items }

-- and what it was named for, if it was named
abbrev pub named_as : Content → RowSlot → Option Naming → Option Named
named_as c slot None = None
named_as c slot (Some m) = Some (record { level = m.level; in_conflict = m.in_conflict; form = form (row_of c slot); sources = source_numbers (row_of c slot) })

abbrev pub named_of : Content → RowSlot → Option Named
named_of c slot = named_as c slot slot.naming

abbrev pub state_of : Content → ℕ → List (Option Held) → List RowSlot → Mood → State
state_of c level held slots mood =
    record { vars = c.vars; parities = c.given; level = level; values = held; named = map (named_of c) slots; mood = mood }

-- the slot has the same row, and keeps its name where its level stays
pub record IsKeptSlot (level : ℕ) (old new : RowSlot) : Type 0 where
  pub terms : new.terms.items ≡ old.terms.items
  pub right : new.right ≡ old.right
  pub sources : new.sources.items ≡ old.sources.items
  pub naming : new.naming ≡ keep_naming level old.naming

pub record AreKept (level : ℕ) (old new : List RowSlot) (n : ℕ) : Type 0 where
  pub long : length new ≡ length old
  pub done : (k : ℕ) (d : RowSlot) → k < n → IsKeptSlot level (slice_index_or old k d) (slice_index_or new k d)
  pub left : (k : ℕ) (d : RowSlot) → n ≤ k → slice_index_or new k d ≡ slice_index_or old k d

-- the slot has room for rows of the matrix, and no bit past the variables
pub record IsSlotOf (c : Content) (slot : RowSlot) : Type 0 where
  pub terms : length slot.terms.items ≡ words_for c.vars
  pub sources : length slot.sources.items ≡ words_for (length c.given)
  pub padded : (k : ℕ) → c.vars ≤ k → bit_of slot.terms.items k ≡ false

-- the slot has room for a row, and no name
pub record IsEmptySlot (vars count : ℕ) (slot : RowSlot) : Type 0 where
  pub terms : length slot.terms.items ≡ words_for vars
  pub sources : length slot.sources.items ≡ words_for count
  pub clear : (k : ℕ) → bit_of slot.terms.items k ≡ false
  pub unnamed : slot.naming ≡ None

-- the first n bits are those of the row's variables, and the others are as before
pub record AreTerms (c : Content) (row : ℕ) (old new : List ℕ) (n : ℕ) : Type 0 where
  pub long : length new ≡ length old
  pub done : (k : ℕ) → k < n → bit_of new k ≡ has (row_at c.rows row) k
  pub left : (k : ℕ) → n ≤ k → bit_of new k ≡ bit_of old k

-- the first n bits are those of the row's sources
pub record AreSources (c : Content) (row : ℕ) (new : List ℕ) (n : ℕ) : Type 0 where
  pub done : (k : ℕ) → k < n → bit_of new k ≡ slice_index_or (row_at c.rows row).sources k false

-- the slot has the matrix's row, under the name
pub record IsCopy (c : Content) (row : ℕ) (naming : Naming) (slot : RowSlot) : Type 0 where
  pub fits : IsSlotOf c slot
  pub naming_is : slot.naming ≡ Some naming
  pub row_is : row_of c slot ≡ row_at c.rows row

-- a slot that was named stays, and another one has the matrix's row
abbrev pub IsNamedSlot : Content → ℕ → Naming → RowSlot → RowSlot → Option Naming → Type 0
IsNamedSlot c row naming old new (Some m) = new ≡ old
IsNamedSlot c row naming old new None = IsCopy c row naming new

abbrev pub value_or_false : Option Held → Bool
value_or_false None = false
value_or_false (Some h) = h.value

-- the sum of the slot's row over the first n values, where an unassigned one counts as false, and its right side
abbrev pub IsSlotSum : RowSlot → List (Option Held) → ℕ → Bool → Type 0
IsSlotSum slot held n b = differ (odd_sum (map (λ x. bit_of slot.terms.items x && value_or_false (slice_index_or held x None)) (range_with_len 0 n))) slot.right ≡ b

pub record IsScratch (c : Content) (level : ℕ) (held : List (Option Held)) (assigned truths : List ℕ) (slots : List RowSlot) (mood : Mood) : Type 0 where
  pub of_given : IsOfGiven c
  pub few : c.vars ≤ MAX_VARIABLE
  pub few_given : length c.given < 2 ^ 32
  pub right : IsRightState c.columns (state_of c level held slots mood)
  pub assigned_long : length assigned ≡ words_for (length c.columns)
  pub truths_long : length truths ≡ words_for (length c.columns)
  pub fits : (k : ℕ) (d : RowSlot) → k < length slots → IsSlotOf c (slice_index_or slots k d)

-- the engine has the number of each variable besides
pub record IsEngine (c : Content) (variables : List ℕ) (level : ℕ) (held : List (Option Held)) (assigned truths : List ℕ) (slots : List RowSlot) (mood : Mood) : Type 0 where
  pub is : IsScratch c level held assigned truths slots mood
  pub variables_are : variables ≡ range_with_len 1 c.vars

-- ---- masks
-- the first n bits say which columns are assigned and which are true
abbrev pub AreMasks : List ℕ → List (Option Held) → List ℕ → List ℕ → ℕ → Type 0
AreMasks columns held assigned truths n =
    ((k : ℕ) → k < n → bit_of assigned k ≡ not (is_unassigned (slice_index_or held (column_at columns k) None)))
    × ((k : ℕ) → k < n → bit_of truths k ≡ value_or_false (slice_index_or held (column_at columns k) None))
