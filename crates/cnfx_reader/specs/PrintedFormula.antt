-- What the printer of formulas writes.
use Rattle.std.specs.Prelude.{ℕ, ◌+◌, ◌<◌, ◌^◌, List, [], ◌∷◌, ◌++◌, length, flat_map, codes, decimal}
use Rattle.std.specs.List.{join_with_byte}
use Rattle.cx_base.specs.Literals.{Literal}
use Rattle.cx_base.specs.Integers.{integer_of, integers_of}
use Rattle.cx_base.specs.Problem.{Problem, IsWithinVariables, clauses_of, parities_of}
use Rattle.cx_base.specs.declared.constraint.Constraint.{Constraint}
use Rattle.cx_base.specs.declared.constraint.Constraint.TheVariants.{Clause, Parity, Assume}
use Rattle.cx_texts.specs.Words.{letter}
use Rattle.cx_texts.specs.Grammar.{spelled_list}
use Rattle.cx_texts.specs.Printed.{printed_integer, printed_line}
use Rattle.cx_texts.specs.FormulaText.{Reads}

-- a constraint is a line of its words, and a parity's `x` is joined to its first integer
abbrev pub printed_constraint : Constraint → List ℕ
printed_constraint (Clause lits) = printed_line (spelled_list (integers_of lits))
printed_constraint (Parity lits) = codes "x" ++ printed_line (spelled_list (integers_of lits))
printed_constraint (Assume lits) = printed_line (letter 97 ∷ spelled_list (integers_of lits))

-- `p cnf`, the number of variables and the number of clauses and parities
abbrev pub printed_header : Problem → List ℕ
printed_header formula =
    join_with_byte 32 (codes "p" ∷ codes "cnf" ∷ decimal formula.variables ∷ decimal (length (clauses_of formula.constraints) + length (parities_of formula.constraints)) ∷ []) ++ 10 ∷ []

-- the header and a line for each constraint
abbrev pub printed_formula : Problem → List ℕ
printed_formula formula = printed_header formula ++ flat_map printed_constraint formula.constraints

-- a printed formula, of fewer than 2 ^ 64 constraints, is read as the formula
abbrev pub PrintedFormulasRead : Type 0
PrintedFormulasRead = (formula : Problem) → IsWithinVariables formula.variables formula.constraints → length formula.constraints < 2 ^ 64 → Reads (printed_formula formula) formula

-- a literal and a space
abbrev pub literal_text : Literal → List ℕ
literal_text l = printed_integer (integer_of l) ++ 32 ∷ []

-- literals, a zero and a line feed
abbrev pub literals_text : List Literal → List ℕ
literals_text lits = flat_map literal_text lits ++ 48 ∷ 10 ∷ []
