-- Sums over lists of variables.
use Rattle.std.specs.Prelude.{◌≡◌, ℕ, Bool, List, map}
use Rattle.cx_base.specs.Literals.{differ, value_of}
use Rattle.cx_base.specs.Parity.{odd_sum}
use Rattle.parity_engine.specs.Written.{AreRising}

-- the sum of the variables' values modulo two
abbrev pub sum_over : List ℕ → List Bool → Bool
sum_over list v = odd_sum (map (value_of v) list)

-- whether the sum of the variables' values is not the right side
abbrev pub excess : List ℕ → Bool → List Bool → Bool
excess list right v = differ (sum_over list v) right

-- s: the variables that are in one of the lists and not in the other
pub record IsSumOf (a b s : List ℕ) : Type 0 where
  pub sums : (v : List Bool) → sum_over s v ≡ differ (sum_over a v) (sum_over b v)
  pub rises : (least most : ℕ) → AreRising least most a → AreRising least most b → AreRising least most s
