-- Short parities as they were given, and the engine that looks at them first.
use Rattle.std.specs.Prelude.{◌≡◌, ◌≢◌, ◌++◌, ℕ, ◌+◌, ◌<◌, ◌≤◌, ◌^◌, Bool, true, false, cond, List, [], ◌∷◌, length, map, replicate, slice_index_or, Option, Some, None}
use Rattle.std.specs.List.{AllByRecursion}
use Rattle.std.specs.List.Sorted.{IsPermutation}
use Rattle.std.specs.Simd.Lanes.{zip2}
use Rattle.cx_base.specs.Literals.{Literal, differ, negate}
use Rattle.cx_base.specs.Problem.{AreWithin}
use Rattle.cx_base.specs.Parity.{NormalForm, normal_form}
use Rattle.parity_engine.specs.Equations.{parity_number}
use Rattle.parity_engine.specs.Written.{IsWritten, Rises, literals_with}
use Rattle.parity_engine.specs.State.{IsBroken, Named, State, held_at}
use Rattle.parity_engine.specs.declared.state.Held.{Held}
use Rattle.parity_engine.specs.declared.state.Mood.{Mood}
use Rattle.parity_engine.specs.declared.state.Mood.TheVariants.{Busy, Broken}
use Rattle.parity_engine.specs.declared.state.Naming.{Naming}
use Rattle.gauss_incremental.specs.Namings.{AreNamedBy}
use Rattle.gauss_incremental.specs.declared.shorts.Short.{Short}
use Rattle.gauss_incremental.specs.declared.shorts.ShortKind.{ShortKind}
use Rattle.gauss_incremental.specs.declared.shorts.ShortKind.TheVariants.{Open, Met, Unmet, Implies}
use Rattle.gauss_incremental.specs.declared.looks.ShortFinding.{ShortFinding}
use Rattle.gauss_incremental.specs.declared.looks.ShortFinding.TheVariants.{Nothing, Implication, Contradiction}
use Rattle.gauss_incremental.specs.declared.short_first.Told.{Told}
use Rattle.gauss_incremental.specs.declared.short_first.Told.TheVariants.{ByMatrix, ByUnit, ByUnmet}

-- ---- what a parity says
-- all its variables are assigned, or all but that of the literal; `sum` is whether an odd number of the literals before is true
abbrev pub kind_with : Bool → Option Literal → ShortKind
kind_with sum None = cond sum Met Unmet
kind_with sum (Some l) = Implies (cond sum (negate l) l)

-- one literal more, under what its variable holds
abbrev pub kind_step : Option Held → Bool → Option Literal → Literal → (Bool → Option Literal → ShortKind) → ShortKind
kind_step (Some h) sum free l rest = rest (differ sum (differ l.negative h.value)) free
kind_step None sum None l rest = rest sum (Some l)
kind_step None sum (Some m) l rest = Open

-- what literals say after others, of which `free` alone is not assigned
abbrev pub kind_after : List (Option Held) → Bool → Option Literal → List Literal → ShortKind
kind_after values sum free [] = kind_with sum free
kind_after values sum free (l ∷ lits) = kind_step (held_at values l.variable) sum free l (λ s o. kind_after values s o lits)

-- what the literals say as a parity
abbrev pub kind_under : List (Option Held) → List Literal → ShortKind
kind_under values lits = kind_after values false None lits

-- ---- short parities
abbrev pub short_form : List (List Literal) → Short → NormalForm
short_form parities short = normal_form (parity_number parities short.number)

-- the given parity of the number, as it is written
pub record IsShort (vars : ℕ) (parities : List (List Literal)) (short : Short) : Type 0 where
  pub low : 1 ≤ short.number
  pub high : short.number ≤ length parities
  pub within : AreWithin vars short.lits
  pub written : IsWritten (short_form parities short) short.lits

-- ---- how they are found
-- the literals with their variables in order, each once
pub record AreInOrder (vars : ℕ) (lits ordered : List Literal) : Type 0 where
  pub moved : IsPermutation lits ordered
  pub rises : Rises 1 (map (λ l. l.variable) ordered)
  pub within : AreWithin vars ordered

-- the parity as it is written, where the variables of these literals rise
abbrev pub IsWrittenOf : List Literal → List Literal → Type 0
IsWrittenOf ordered lits = lits ≡ literals_with (normal_form ordered).right_side (map (λ l. l.variable) ordered)

-- the parity of these literals, under the number
pub record IsShortOf (vars : ℕ) (lits : List Literal) (number : ℕ) (short : Short) : Type 0 where
  pub number_is : short.number ≡ number
  pub within : AreWithin vars short.lits
  pub written : IsWritten (normal_form lits) short.lits

abbrev pub no_short : Short
no_short = record { number = 0; lits = [] }

abbrev pub short_at : List Short → ℕ → Short
short_at shorts place = slice_index_or shorts place no_short

-- ---- their names
-- the parity, if it was named: it is the sum of itself alone
abbrev pub short_name : List (List Literal) → Option Naming → Short → Option Named
short_name parities None short = None
short_name parities (Some m) short =
    Some (record { level = m.level; in_conflict = m.in_conflict; form = short_form parities short; sources = short.number ∷ [] })

-- what a parity is named for now
abbrev pub naming_of : State → Bool → Naming
naming_of s in_conflict = record { level = s.level; in_conflict = in_conflict }

-- a name for each short parity
abbrev pub short_names : List (List Literal) → List Short → List (Option Naming) → List (Option Named)
short_names parities shorts named = zip2 (short_name parities) named shorts

-- ---- the engine
abbrev pub mood_after : Told → Mood → Mood
mood_after ByMatrix mood = mood
mood_after ByUnit mood = Busy
mood_after (ByUnmet place) mood = Broken

-- the state of the engine with the matrix, the names of the short parities after those of its rows, and the mood that the last event left
abbrev pub with_shorts : State → List Short → List (Option Naming) → Told → State
with_shorts s shorts named told = record s { named = s.named ++ short_names s.parities shorts named; mood = mood_after told s.mood }

-- a short parity that is named for a contradiction told the last event
abbrev pub IsToldBy : ℕ → Told → Type 0
IsToldBy place ByMatrix = ⊥
IsToldBy place ByUnit = ⊥
IsToldBy place (ByUnmet p) = place ≡ p

-- what is known of the short parity that told the last event
abbrev pub IsTold : State → List Short → List (Option Naming) → Told → Type 0
IsTold s shorts named ByMatrix = Unit {0}
IsTold s shorts named ByUnit = s.mood ≢ Broken
IsTold s shorts named (ByUnmet place) =
    (place < length shorts) × (slice_index_or named place None ≡ Some (naming_of s true)) × IsBroken s (short_form s.parities (short_at shorts place))

pub record AreShortsOf (s : State) (shorts : List Short) (named : List (Option Naming)) (told : Told) : Type 0 where
  pub each : AllByRecursion (IsShort s.vars s.parities) shorts
  pub few : length s.named + length shorts < 2 ^ 32
  pub long : length named ≡ length shorts
  pub last : AreNamedBy s.level named
  pub clashes : (p : ℕ) (m : Naming) → slice_index_or named p None ≡ Some m → m.in_conflict ≡ true → IsToldBy p told × (m.level ≡ s.level)
  pub by : IsTold s shorts named told

-- short ones of the parities, none of them named, whose rows have numbers after those of the state's rows
pub record AreNewShorts (vars : ℕ) (parities : List (List Literal)) (s : State) (shorts : List Short) (named : List (Option Naming)) : Type 0 where
  pub each : AllByRecursion (IsShort vars parities) shorts
  pub few : length s.named + length shorts < 2 ^ 32
  pub unnamed : named ≡ replicate (length shorts) None

-- ---- what a look finds
-- the parity has no name of another level, and none is said to contradict the values
abbrev pub IsFree : State → List Short → List (Option Naming) → ℕ → Type 0
IsFree s shorts named place = (place < length shorts) × (s.mood ≢ Broken) × ((m : Naming) → slice_index_or named place None ≡ Some m → m.level ≡ s.level)

-- the parity says what is found
abbrev pub IsFoundShort : State → List Short → List (Option Naming) → ShortFinding → Type 0
IsFoundShort s shorts named Nothing = Unit {0}
IsFoundShort s shorts named (Implication place l) = IsFree s shorts named place × (kind_under s.values (short_at shorts place).lits ≡ Implies l)
IsFoundShort s shorts named (Contradiction place) = IsFree s shorts named place × (kind_under s.values (short_at shorts place).lits ≡ Unmet)
