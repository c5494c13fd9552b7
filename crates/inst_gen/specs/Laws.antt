-- What planted instances are: met by their values, or by none.
use Rattle.std.specs.Prelude.{ℕ, ◌≤◌}
use Rattle.cx_base.specs.Problem.{Meets, Unmet}
use Rattle.inst_gen.specs.declared.kind.InstanceKind.TheVariants.{Even, Odd}
use Rattle.inst_gen.specs.Planting.{planted_formula, planted_values}

-- the planted values meet each instance of this kind
abbrev pub EvenIsMet : Type 0
EvenIsMet = (size seed : ℕ) → 4 ≤ size → Meets (planted_formula Even size seed) (planted_values size seed)

-- no values meet an instance of this kind
abbrev pub OddIsUnmet : Type 0
OddIsUnmet = (size seed : ℕ) → 4 ≤ size → Unmet (planted_formula Odd size seed)
