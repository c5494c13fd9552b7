-- Counts of 64 bits, which stay at their last value.
use Rattle.std.specs.Prelude.{◌+◌, ◌-◌, ◌^◌, ◌≤◌, ℕ, min}

-- the count after one more
abbrev pub count_after : ℕ → ℕ
count_after before = min (before + 1) (2 ^ 64 - 1)

-- it is one more, or greater
abbrev pub Rose : ℕ → ℕ → Type 0
Rose before now = count_after before ≤ now
