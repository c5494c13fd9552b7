-- The trail as its readers see it: assigned literals in order, each with its level and its reason.
use Rattle.std.specs.Prelude.{ℕ, ◌-◌, ◌<◌, ◌≤◌, ◌≡◌, ◌≢◌, false, ◌++◌, List, [], ◌∷◌, length, get_or}
use Rattle.std.specs.List.{All}
use Rattle.cx_base.specs.Literals.{Literal, negate}
use Rattle.cx_base.specs.declared.literal.TheConstants.{MAX_VARIABLE}
use Rattle.cx_trail.specs.declared.entry.Entry.{Entry}
use Rattle.cx_trail.specs.declared.entry.Truth.{Truth}
use Rattle.cx_trail.specs.declared.entry.Truth.TheVariants.{True, False, Open}
use Rattle.cx_trail.specs.declared.entry.Reason.{Reason}
use Rattle.cx_trail.specs.declared.entry.Reason.TheVariants.{Decision}

pub record TrailState : Type 0 where
  pub variables : ℕ
  pub level : ℕ
  pub entries : List Entry

abbrev pub no_entry : Entry
no_entry = record { literal = record { variable = 0; negative = false }; level = 0; reason = Decision }

-- the entry at place i
abbrev pub entry_at : List Entry → ℕ → Entry
entry_at entries i = get_or entries i no_entry

-- the literal is at place i
abbrev pub StandsAt : List Entry → Literal → ℕ → Type 0
StandsAt entries l i = (i < length entries) × ((entry_at entries i).literal ≡ l)

-- the literal is true
abbrev pub IsTrueIn : List Entry → Literal → Type 0
IsTrueIn entries l = (i : ℕ) × StandsAt entries l i

-- the literal is false
abbrev pub IsFalseIn : List Entry → Literal → Type 0
IsFalseIn entries l = IsTrueIn entries (negate l)

-- no entry has the variable
abbrev pub IsOpenIn : List Entry → ℕ → Type 0
IsOpenIn entries v = (i : ℕ) → i < length entries → (entry_at entries i).literal.variable ≢ v

-- what a value says of its literal
abbrev pub Means : List Entry → Literal → Truth → Type 0
Means entries l True = IsTrueIn entries l
Means entries l False = IsFalseIn entries l
Means entries l Open = IsOpenIn entries l.variable

-- the literal is true, at level k or below
abbrev pub IsTrueBy : ℕ → List Entry → Literal → Type 0
IsTrueBy k entries l = (i : ℕ) × (i < length entries) × ((entry_at entries i).literal ≡ l) × ((entry_at entries i).level ≤ k)

-- the literal is false by an entry below a place
abbrev pub IsFalseBefore : List Entry → ℕ → Literal → Type 0
IsFalseBefore entries place l = (i : ℕ) × (i < place) × ((entry_at entries i).literal ≡ negate l)

-- the entry of the variable
abbrev pub HasEntry : List Entry → ℕ → Entry → Type 0
HasEntry entries v e = (i : ℕ) × (i < length entries) × (entry_at entries i ≡ e) × (e.literal.variable ≡ v)

abbrev pub IsAssignedIn : List Entry → ℕ → Type 0
IsAssignedIn entries v = (i : ℕ) × (i < length entries) × ((entry_at entries i).literal.variable ≡ v)

-- each variable once, each within the number of variables; levels rise up to the current one, and each begins with its decision
pub record IsTrail (t : TrailState) : Type 0 where
  pub few : t.variables ≤ MAX_VARIABLE
  pub short : length t.entries ≤ t.variables
  pub distinct : (i j : ℕ) → i < length t.entries → j < length t.entries → (entry_at t.entries i).literal.variable ≡ (entry_at t.entries j).literal.variable → i ≡ j
  pub low : (i : ℕ) → i < length t.entries → 1 ≤ (entry_at t.entries i).literal.variable
  pub high : (i : ℕ) → i < length t.entries → (entry_at t.entries i).literal.variable ≤ t.variables
  pub levels : (i : ℕ) → i < length t.entries → (entry_at t.entries i).level ≤ t.level
  pub rising : (i j : ℕ) → i ≤ j → j < length t.entries → (entry_at t.entries i).level ≤ (entry_at t.entries j).level
  pub deep : t.level ≤ length t.entries
  pub newest : (entry_at t.entries (length t.entries - 1)).level ≡ t.level
  -- a decision above level 0 is the first entry of its level
  pub opens : (i j : ℕ) → i < j → j < length t.entries → 0 < (entry_at t.entries j).level → (entry_at t.entries j).reason ≡ Decision → (entry_at t.entries i).level < (entry_at t.entries j).level
  -- each level from 1 up to the current one has its decision
  pub decided : (k : ℕ) → 1 ≤ k → k ≤ t.level → (i : ℕ) × (i < length t.entries) × ((entry_at t.entries i).level ≡ k) × ((entry_at t.entries i).reason ≡ Decision)

-- the trail with one more entry at its end, at this level
abbrev pub pushed : TrailState → ℕ → Literal → Reason → TrailState
pushed t level l reason = record { variables = t.variables; level = level; entries = t.entries ++ (record { literal = l; level = level; reason = reason }) ∷ [] }

-- exactly the entries of levels above l are taken back
pub record TakesBack (l : ℕ) (old new : TrailState) : Type 0 where
  pub variables : new.variables ≡ old.variables
  pub level : new.level ≡ l
  pub dropped : List Entry
  pub parts : old.entries ≡ new.entries ++ dropped
  pub kept_low : All (λ e. e.level ≤ l) new.entries
  pub dropped_high : All (λ e. l < e.level) dropped

-- each variable is assigned
abbrev pub IsFull : TrailState → Type 0
IsFull t = (v : ℕ) → 1 ≤ v → v ≤ t.variables → IsAssignedIn t.entries v

-- some variable is not
abbrev pub HasOpen : TrailState → Type 0
HasOpen t = (v : ℕ) × (1 ≤ v) × (v ≤ t.variables) × IsOpenIn t.entries v
