-- Parities whose clauses follow one another.
use Rattle.std.specs.Prelude.{◌≡◌, ℕ, ◌+◌, ◌-◌, ◌*◌, ◌^◌, ◌<◌, ◌≤◌, Bool, List, [], map, fold, length, slice_index_or, if◌then◌else◌}
use Rattle.std.specs.List.{AllByRecursion, IsDistinct, flat_map, range_with_len}
use Rattle.std.specs.Cmp.Lexicographic.{pointwise}
use mathlib.Core.Bool.{beq}
use Rattle.cx_base.specs.Literals.{Literal}
use Rattle.cx_base.specs.Parity.{odd_sum}
use Rattle.cx_base.specs.declared.literal.TheConstants.{MAX_VARIABLE}
use Rattle.parity_engine.specs.Written.{AreRising}
use Rattle.xor_recover.specs.declared.starts.Start.{Start}
use Rattle.xor_recover.specs.declared.wholes.Whole.{Whole}
use Rattle.xor_recover.specs.Starts.{IsStart, rows_at}

abbrev pub variables_of : List Literal → List ℕ
variables_of lits = map (λ l. l.variable) lits

abbrev pub signs_of : List Literal → List Bool
signs_of lits = map (λ l. l.negative) lits

-- the signs as the digits of a number, the first one's weighing most
abbrev pub signs_code : List Bool → ℕ
signs_code signs = fold (λ n b. 2 * n + (if b then 1 else 0)) 0 signs

abbrev pub clause_at : List (List Literal) → ℕ → List Literal
clause_at clauses n = slice_index_or clauses (n - 1) []

-- this many clauses from a number on have the first one's variables in its order, its sum of signs, and signs of their own
pub record AreOnce (clauses : List (List Literal)) (n count : ℕ) : Type 0 where
  pub variables : (j : ℕ) → j < count → variables_of (clause_at clauses (n + j)) ≡ variables_of (clause_at clauses n)
  pub sums : (j : ℕ) → j < count → odd_sum (signs_of (clause_at clauses (n + j))) ≡ odd_sum (signs_of (clause_at clauses n))
  pub apart : (i j : ℕ) → i < j → j < count → signs_of (clause_at clauses (n + i)) ≡ signs_of (clause_at clauses (n + j)) → ⊥

-- the starts of this many neighbouring clauses that start alike
abbrev pub starts_from : Start → ℕ → List Start
starts_from s count = map (λ n. record s { number = n }) (range_with_len s.number count)

abbrev pub count_of : Whole → ℕ
count_of w = 2 ^ (length w.key.vars.items - 1)

abbrev pub starts_of : Whole → List Start
starts_of w = starts_from w.start (count_of w)

abbrev pub starts_of_all : List Whole → List Start
starts_of_all wholes = flat_map starts_of wholes

-- the clauses from the start's number on are those of the parity: one of each list of signs
pub record IsWhole (clauses : List (List Literal)) (w : Whole) : Type 0 where
  pub two : 2 ≤ length w.key.vars.items
  pub six : length w.key.vars.items ≤ 6
  pub rises : AreRising 1 MAX_VARIABLE w.key.vars.items
  pub each : AllByRecursion (IsStart clauses) (starts_of w)
  pub rows : AllByRecursion (λ x. (x.variables ≡ w.key.vars.items) × (x.right ≡ w.key.right)) (rows_at clauses (starts_of w))
  pub numbers : map (λ x. x.number) (rows_at clauses (starts_of w)) ≡ range_with_len w.start.number (count_of w)
  pub apart : IsDistinct (pointwise beq) (map (λ x. x.signs) (rows_at clauses (starts_of w)))
