-- Sums of normal forms, one more parity at a time.
use Rattle.std.specs.Prelude.{ℕ, Bool, false, List, map}
use Rattle.std.specs.FinSet as set
use Rattle.cx_base.specs.Literals.{Literal, differ}
use Rattle.cx_base.specs.Parity.{NormalForm, normal_form, symmetric_difference, sum_of}

abbrev pub zero_sum : NormalForm
zero_sum = record { variables = set.empty; right_side = false }

-- the sum of the two
abbrev pub plus : NormalForm → NormalForm → NormalForm
plus p q = record { variables = symmetric_difference p.variables q.variables; right_side = differ p.right_side q.right_side }

-- the variable is in the set where it was not, and the other way round
abbrev pub flipped : NormalForm → ℕ → NormalForm
flipped p x = record { variables = symmetric_difference p.variables (set.insert set.empty x); right_side = p.right_side }

-- the bit is added to the right side
abbrev pub turned : NormalForm → Bool → NormalForm
turned p b = record { variables = p.variables; right_side = differ b p.right_side }

-- with the sum of the parities
abbrev pub plus_all : NormalForm → List (List Literal) → NormalForm
plus_all p parities = plus p (sum_of (map normal_form parities))
