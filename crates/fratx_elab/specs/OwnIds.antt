-- Ids that stand for themselves, and one for which another number may stand.
use Rattle.std.specs.Prelude.{ℕ, map, Option, Some, None, IsTrue}
use Rattle.std.specs.Ordering.{nat_cmp}
use Rattle.std.specs.FinMap as map_
use Rattle.fratx_elab.specs.Names.{IsProofId}
use Rattle.fratx_elab.specs.declared.own_ids.Other.{Other}

-- each id of a set stands for itself
abbrev pub each_itself : {V : Type 0} → map_.FinMap nat_cmp V → map_.FinMap nat_cmp ℕ
each_itself ids = map_.from_entries (map (λ n. (n, n)) (map_.keys ids))

-- a proof may have each id of a set
abbrev pub AreProofIds : {V : Type 0} → map_.FinMap nat_cmp V → Type 0
AreProofIds ids = (n : ℕ) → IsTrue (map_.contains_key ids n) → IsProofId n

-- the other's number stands for its id
abbrev pub with_other : Option Other → map_.FinMap nat_cmp ℕ → map_.FinMap nat_cmp ℕ
with_other (Some other) numbers = map_.insert numbers other.id other.number
with_other None numbers = numbers
