-- The literals that stand for the variables of a row.
use Rattle.std.specs.Prelude.{◌≡◌, ◌≢◌, ℕ, List, Option, Some, None}
use Rattle.std.specs.List.{AllZip}
use Rattle.cx_base.specs.Literals.{Literal}
use Rattle.cx_trail.specs.Sequence.{TrailState, IsFalseIn}

-- the literal has the variable; it is the implied one at its variable, and otherwise false
abbrev pub IsLiteralFor : TrailState → Option Literal → ℕ → Literal → Type 0
IsLiteralFor trail None variable m = (m.variable ≡ variable) × IsFalseIn trail.entries m
IsLiteralFor trail (Some l) variable m = (m.variable ≡ variable) × (variable ≡ l.variable → m ≡ l) × (variable ≢ l.variable → IsFalseIn trail.entries m)

-- one for each literal's variable, in order
abbrev pub AreLiteralsFor : TrailState → Option Literal → List Literal → List Literal → Type 0
AreLiteralsFor trail implied lits clause = AllZip (λ l m. IsLiteralFor trail implied l.variable m) lits clause
