-- Which calls fail.
use Rattle.std.specs.Prelude.{ℕ, Bool, false, List, Option, Some, None, nat_lt, ◌==◌}
use Rattle.std.specs.List.{list_any}

-- the call of this number is among those that fail
abbrev pub is_failing : ℕ → List ℕ → Bool
is_failing number failing = list_any (λ n. n == number) failing

-- the call of this number comes after the last that may pass
abbrev pub is_past : ℕ → Option ℕ → Bool
is_past number None = false
is_past number (Some passes) = nat_lt passes number
