-- The integers of steps.
use Rattle.std.specs.Prelude.{◌≢◌, ◌≤◌, ℤ, pos, nat_abs, List}
use Rattle.std.specs.List.{AllByRecursion}

-- no integer is zero, and each has a magnitude below 2 ^ 63
abbrev pub AreStepIntegers : List ℤ → Type 0
AreStepIntegers zs = AllByRecursion (λ z. (z ≢ pos 0) × (nat_abs z ≤ 9223372036854775807)) zs
