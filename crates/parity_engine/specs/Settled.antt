-- What stays true of a state through all calls: at the levels below the current one nothing was left to follow.
use Rattle.std.specs.Prelude.{◌≡◌, ℕ, ◌<◌, ◌≤◌, Bool, true, List, map, slice_index_or, Some, None}
use Rattle.cx_base.specs.Literals.{Literal}
use Rattle.parity_engine.specs.declared.state.Held.{Held}
use Rattle.parity_engine.specs.declared.state.Mood.TheVariants.{Calm}
use Rattle.parity_engine.specs.declared.event.ParityEvent.{ParityEvent}
use Rattle.parity_engine.specs.State.{IsSilent, Reports, State, assigned, back, fresh, held_at, is_unassigned, keep, pushed}

-- the state as it was when the next level was pushed
abbrev pub at_level : ℕ → State → State
at_level level s = record s { level = level; values = map (keep level) s.values }

-- at each level below the current one the values agree with a solution of the parities, which force no unassigned variable
abbrev pub IsSettledBelow : State → Type 0
IsSettledBelow s = (p : ℕ) → p < s.level → IsSilent (at_level p s)

-- no value is of a level above the current one, the levels below it are settled, and nothing follows in a calm state
pub record IsSettled (s : State) : Type 0 where
  pub levels : (x : ℕ) (h : Held) → slice_index_or s.values x None ≡ Some h → h.level ≤ s.level
  pub below : IsSettledBelow s
  pub calm : s.mood ≡ Calm → IsSilent s

-- ---- laws
-- an engine is made settled, and each call keeps it so
abbrev pub FreshIsSettled : Type 0
FreshIsSettled = (vars : ℕ) (parities : List (List Literal)) (rows : ℕ) → IsSettled (fresh vars parities rows)

abbrev pub AssignedIsSettled : Type 0
AssignedIsSettled = (s : State) (v : ℕ) (b : Bool) → IsSettled s → is_unassigned (held_at s.values v) ≡ true → IsSettled (assigned s v b)

abbrev pub ReportedIsSettled : Type 0
ReportedIsSettled = (s t : State) (event : ParityEvent) → IsSettled s → Reports s event t → IsSettled t

abbrev pub PushedIsSettled : Type 0
PushedIsSettled = (s : State) → IsSettled s → s.mood ≡ Calm → IsSettled (pushed s)

abbrev pub BackIsSettled : Type 0
BackIsSettled = (s : State) (level : ℕ) → IsSettled s → level < s.level → IsSettled (back level s)

-- after a backjump nothing follows, as after Quiet
abbrev pub BackIsSilent : Type 0
BackIsSilent = (s : State) (level : ℕ) → IsSettled s → level < s.level → IsSilent (back level s)

-- what level p and those below it hold stays under assignments above p, new levels and backjumps to p or above; so a backjump to p leaves
-- the values that held when the next level was pushed
abbrev pub LowerLevelsStay : Type 0
LowerLevelsStay =
    (s : State) (p : ℕ)
    → ((v : ℕ) (b : Bool) → p < s.level → held_at s.values v ≡ None → map (keep p) (assigned s v b).values ≡ map (keep p) s.values)
    × (map (keep p) (pushed s).values ≡ map (keep p) s.values)
    × ((l : ℕ) → p ≤ l → map (keep p) (back l s).values ≡ map (keep p) s.values)
    × (((x : ℕ) (h : Held) → slice_index_or s.values x None ≡ Some h → h.level ≤ p) → map (keep p) s.values ≡ s.values)
