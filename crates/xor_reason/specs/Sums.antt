-- Sums over rising numbers.
use Rattle.std.specs.Prelude.{◌≡◌, ℕ, Bool, List, map, nat_eq}
use Rattle.std.specs.List.{list_any}
use Rattle.cx_base.specs.Literals.{Literal, differ}
use Rattle.cx_base.specs.Parity.{odd_sum}
use Rattle.parity_engine.specs.Written.{AreRising}

-- the sum of a bit for each number modulo two
abbrev pub sum_over : List ℕ → (ℕ → Bool) → Bool
sum_over list v = odd_sum (map v list)

-- s: the numbers that are in one of the lists and not in the other
pub record IsSumOf (a b s : List ℕ) : Type 0 where
  pub sums : (v : ℕ → Bool) → sum_over s v ≡ differ (sum_over a v) (sum_over b v)
  pub rises : (least most : ℕ) → AreRising least most a → AreRising least most b → AreRising least most s

-- whether some literal has the variable
abbrev pub has_variable : List Literal → ℕ → Bool
has_variable lits v = list_any (λ n. nat_eq n v) (map (λ (l : Literal). l.variable) lits)

-- the clause has the variables that one of the others has, and no other
abbrev pub HasVariablesOfSum : List Literal → List Literal → List Literal → Type 0
HasVariablesOfSum one other clause = (v : ℕ) → has_variable clause v ≡ differ (has_variable one v) (has_variable other v)
