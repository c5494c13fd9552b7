-- What is left of a list of steps that are given one after another.
use Rattle.std.specs.Prelude.{◌≡◌, ◌+◌, ℕ, List, ◌++◌, length}
use Rattle.cx_base.specs.Endings.{Ending, finished}

-- the steps that are still to come, and how many were given
pub record StepsLeft (S : Type 0) : Type 0 where
  pub steps : List S
  pub given : ℕ

-- these steps and then the end are left
abbrev pub LeavesList : {S : Type 0} → StepsLeft S → List S → Ending → Type 0
LeavesList left steps ending = (steps ≡ left.steps) × (ending ≡ finished)

-- how many steps were given when all are given
abbrev pub last_place : {S : Type 0} → StepsLeft S → ℕ
last_place left = left.given + length left.steps

-- between the two a prefix of the list was given
pub record GaveFront {S : Type 0} (old new : StepsLeft S) : Type 0 where
  pub front : List S
  pub split : old.steps ≡ front ++ new.steps
  pub count : new.given ≡ old.given + length front
