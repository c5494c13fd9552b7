-- Lists of integers among which ids have their place.
use Rattle.std.specs.Prelude.{ℕ, ℤ, pos, negsuc, ◌+◌, ◌-◌, ◌^◌, nat_lt, if◌then◌else◌, List, take, drop}

-- what lies from start up to end
abbrev pub part : {A : Type 0} → List A → ℕ → ℕ → List A
part xs start end = take (end - start) (drop start xs)

-- an id as an integer: one from 2 ^ 63 on is a negative one
abbrev pub signed : ℕ → ℤ
signed n = if nat_lt n (2 ^ 63) then pos n else negsuc (n - 2 ^ 63)

-- the id of an integer
abbrev pub unsigned : ℤ → ℕ
unsigned (pos n) = n
unsigned (negsuc n) = n + 2 ^ 63
