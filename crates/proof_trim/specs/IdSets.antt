-- Sets of ids.
use Rattle.std.specs.Prelude.{◌≡◌, ℕ, Bool, false, nat_lt, List, length, get_or, if◌then◌else◌}
use Rattle.std.specs.Ordering.{nat_cmp}
use Rattle.std.specs.FinMap as map
use Rattle.proof_trim.specs.declared.ids.Here.{Here}
use Rattle.proof_trim.specs.declared.ids.IdSet.{IdSet}

-- the id is in a list of what is near, or past its end and in a map
abbrev pub is_in : List Bool → map.FinMap nat_cmp Here → ℕ → Bool
is_in near far n = if nat_lt n (length near) then get_or near n false else map.contains_key far n

-- the id is in the set
abbrev pub has_id : IdSet → ℕ → Bool
has_id ids n = is_in ids.near.items ids.far n

-- the set has just the ids that pass the test
abbrev pub HasIds : IdSet → (ℕ → Bool) → Type 0
HasIds ids test = (n : ℕ) → has_id ids n ≡ test n
