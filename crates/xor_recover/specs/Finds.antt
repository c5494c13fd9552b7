-- What is recovered from the clauses of a formula.
use Rattle.std.specs.Prelude.{◌≡◌, ◌≢◌, ℕ, ◌+◌, List, [], ◌∷◌, ◌++◌, map, Option, Some, None, if◌then◌else◌}
use Rattle.std.specs.List.{All, Contains}
use Rattle.std.specs.List.Sorted.{IsStrictlyIncreasing}
use Rattle.std.specs.Ordering.{ordering_then, nat_cmp, bool_cmp}
use Rattle.std.specs.declared.cmp.Ordering.{Ordering}
use Rattle.std.specs.Cmp.Lexicographic.{slice_cmp}
use Rattle.cx_base.specs.Literals.{Literal}
use Rattle.cx_base.specs.Parity.{NormalForm, normal_form, HasOneOfEach}
use Rattle.cx_base.specs.Problem.{Problem, clauses_of}
use Rattle.cx_semantics.specs.Chain.{same_literals}
use Rattle.cx_semantics.specs.Recovered.{excluded_sum}
use Rattle.cx_semantics.specs.Tables.{named, first_tables}
use Rattle.cx_semantics.specs.LogRules.{naming}
use Rattle.cx_semantics.specs.ProofRules.{parity_of_clauses}
use Rattle.cx_semantics.specs.Judging.{AllHold}
use Rattle.parity_engine.specs.Written.{IsWritten}
use Rattle.xor_recover.specs.declared.found.FoundParity.{FoundParity}

-- The number of the first clause with just these literals, the first clause having the number n.
abbrev pub first_with : List Literal → ℕ → List (List Literal) → Option ℕ
first_with lits n [] = None
first_with lits n (c ∷ cs) = if same_literals lits c then Some n else first_with lits (n + 1) cs

-- The literals exclude an assignment of the find's variables with the wrong sum.
pub record IsExcluding (find : FoundParity) (lits : List Literal) : Type 0 where
  pub each : HasOneOfEach (normal_form find.parity).variables lits
  pub wrong : excluded_sum lits ≢ (normal_form find.parity).right_side

-- The clauses are, for each set of literals that excludes a wrong assignment, the least number of a clause with it, rising.
pub record HasLeastNumbers (formula : Problem) (find : FoundParity) : Type 0 where
  pub rising : IsStrictlyIncreasing find.clauses
  pub needed : (lits : List Literal) → IsExcluding find lits → (n : ℕ) × Contains find.clauses n × (first_with lits 1 (clauses_of formula.constraints) ≡ Some n)
  pub only : All (λ n. (lits : List Literal) × IsExcluding find lits × (first_with lits 1 (clauses_of formula.constraints) ≡ Some n)) find.clauses

-- The clauses are there, and the parity is judged right from them.
abbrev pub IsJudgedRight : Problem → FoundParity → Type 0
IsJudgedRight formula find =
    let clauses = (first_tables formula).clauses in AllHold (naming clauses find.clauses ++ parity_of_clauses find.parity (named clauses find.clauses))

-- Finds in order: by the variables, a shorter list before those that go on from it, then right side 0 before 1.
abbrev pub find_cmp : FoundParity → FoundParity → Ordering
find_cmp a b = ordering_then (slice_cmp nat_cmp (map (λ l. l.variable) a.parity) (map (λ l. l.variable) b.parity)) (bool_cmp (normal_form a.parity).right_side (normal_form b.parity).right_side)

-- The find is this parity, written.
abbrev pub IsFindOf : NormalForm → FoundParity → Type 0
IsFindOf form find = IsWritten form find.parity
