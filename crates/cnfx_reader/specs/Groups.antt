-- Lines that are laid out together, and put in one piece.
use Rattle.std.specs.Prelude.{◌≡◌, ◌<◌, ◌≤◌, ◌+◌, ◌-◌, ℕ, List, ◌++◌, length, take, drop, flat_map, Result, MatchResult}
use Rattle.cx_base.specs.declared.constraint.Constraint.{Constraint}
use Rattle.cx_desk.specs.declared.desk.Port.{Port}
use Rattle.cx_desk.specs.Outside.{Outside}
use Rattle.cx_desk.specs.Calls.{gained, PutFaulted}
use Rattle.cnfx_reader.specs.PrintedFormula.{printed_constraint}

-- on a sheet a text begins at one place, ends before another, and takes at most this much room; what comes after it is as it was
pub record IsLaidOut (text : List ℕ) (most end : ℕ) (before : List ℕ) (begin : ℕ) (after : List ℕ) : Type 0 where
  pub low : end ≤ begin + most
  pub high : begin ≤ end
  pub laid : drop begin after ≡ text ++ drop end before

-- the lines of the constraints from one place up to another
abbrev pub lines_between : List Constraint → ℕ → ℕ → List ℕ
lines_between constraints from to = flat_map printed_constraint (take (to - from) (drop from constraints))

-- from this place on a sheet has these lines
abbrev pub IsGroupIn : List Constraint → ℕ → ℕ → ℕ → List ℕ → Type 0
IsGroupIn constraints from to begin sheet = (begin ≤ length sheet) × (drop begin sheet ≡ lines_between constraints from to)

-- the lines of the first constraints
abbrev pub lines_up_to : List Constraint → ℕ → List ℕ
lines_up_to constraints to = flat_map printed_constraint (take to constraints)

-- the port gained a prefix of all the lines, and not all, before a fault
abbrev pub StopsWithin : Port → List Constraint → Outside → Outside → Type 0
StopsWithin port constraints start new =
    (k : ℕ) × (k < length (flat_map printed_constraint constraints)) × PutFaulted port (gained port (take k (flat_map printed_constraint constraints)) start) new

-- where the port had the lines of the first `from` constraints, it has those of the first `to` now
abbrev pub PutsUpTo : {T E : Type 0} → Port → List Constraint → ℕ → ℕ → Outside → Result T E → Outside → Type 0
PutsUpTo port constraints from to old result new = (start : Outside) → old ≡ gained port (lines_up_to constraints from) start
    → MatchResult result (λ _. new ≡ gained port (lines_up_to constraints to) start) (λ _. StopsWithin port constraints start new)

-- where the port had the lines of the first `from` constraints, it has those before the next place now
abbrev pub PutsNext : {E : Type 0} → Port → List Constraint → ℕ → Outside → Result ℕ E → Outside → Type 0
PutsNext port constraints from old result new = (start : Outside) → old ≡ gained port (lines_up_to constraints from) start
    → MatchResult result (λ next. new ≡ gained port (lines_up_to constraints next) start) (λ _. StopsWithin port constraints start new)
