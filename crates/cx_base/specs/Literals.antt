-- Literals and their truth under values.
use Rattle.std.specs.Prelude.{◌≢◌, ℕ, ◌+◌, ◌*◌, ◌/◌, ◌%◌, ◌-◌, Bool, true, false, cond, eqb, not, ◌&&◌, List, Contains, get_or, nat_eq}

-- a variable, numbered from 1, or its negation
pub record Literal : Type 0 where
  pub variable : ℕ
  pub negative : Bool

-- the literal that is true where l is false
abbrev pub negate : Literal → Literal
negate l = record { variable = l.variable; negative = not l.negative }

-- a variable's two literals
abbrev pub positive_of : ℕ → Literal
positive_of x = record { variable = x; negative = false }

abbrev pub negative_of : ℕ → Literal
negative_of x = record { variable = x; negative = true }

-- one of the two is true, and not the other: the sum modulo two
abbrev pub differ : Bool → Bool → Bool
differ true b = not b
differ false b = b

-- whether two literals are one
abbrev pub same_literal : Literal → Literal → Bool
same_literal l m = nat_eq l.variable m.variable && not (differ l.negative m.negative)

-- twice the variable, and one more for the negation
abbrev pub code_of : Literal → ℕ
code_of l = 2 * l.variable + cond l.negative 1 0

abbrev pub literal_of_code : ℕ → Literal
literal_of_code code = record { variable = code / 2; negative = eqb (code % 2) 1 }

-- the value of variable x: the first value is that of variable 1, and a variable past the end is false
abbrev pub value_of : List Bool → ℕ → Bool
value_of values x = get_or values (x - 1) false

-- whether the literal is true
abbrev pub literal_true : List Bool → Literal → Bool
literal_true values l = differ l.negative (value_of values l.variable)

-- the list has two different literals
pub record HasTwo (lits : List Literal) : Type 0 where
  pub first : Literal
  pub second : Literal
  pub has_first : Contains lits first
  pub has_second : Contains lits second
  pub differ : first ≢ second
