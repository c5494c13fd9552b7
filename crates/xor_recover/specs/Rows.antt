-- Clauses as their literals by rising variables, each once, and a number.
use Rattle.std.specs.Prelude.{◌≡◌, ℕ, ◌+◌, ◌≤◌, Bool, not, List, [], ◌∷◌, ◌++◌, map, length, Option, Some, None, if◌then◌else◌, nat_eq, nat_lt, nat_le}
use Rattle.std.specs.Option.{option_map}
use Rattle.std.specs.Ordering.{ordering_then, nat_cmp, bool_cmp}
use Rattle.std.specs.declared.cmp.Ordering.{Ordering}
use Rattle.std.specs.Cmp.Lexicographic.{slice_cmp}
use Rattle.cx_base.specs.Literals.{Literal, same_literal}
use Rattle.cx_base.specs.Parity.{odd_sum}
use Rattle.cx_base.specs.declared.literal.TheConstants.{MAX_VARIABLE}
use Rattle.parity_engine.specs.Written.{AreRising}

-- the list with the literal at its place; none where its negation is there
abbrev pub inserted : Literal → List Literal → Option (List Literal)
inserted l [] = Some (l ∷ [])
inserted l (m ∷ ms) =
    if nat_lt l.variable m.variable then Some (l ∷ m ∷ ms)
    else (if nat_eq l.variable m.variable then (if same_literal l m then Some (m ∷ ms) else None) else option_map (λ r. m ∷ r) (inserted l ms))

-- at most six literals
abbrev pub kept_short : Option (List Literal) → Option (List Literal)
kept_short None = None
kept_short (Some ms) = if nat_le (length ms) 6 then Some ms else None

abbrev pub placed : Literal → List Literal → Option (List Literal)
placed l ms = kept_short (inserted l ms)

-- the literals of a list, put one after the other
abbrev pub and_place : Option (List Literal) → (List Literal → Option (List Literal)) → Option (List Literal)
and_place None next = None
and_place (Some ms) next = next ms

abbrev pub gathered : List Literal → List Literal → Option (List Literal)
gathered ms [] = Some ms
gathered ms (l ∷ lits) = and_place (placed l ms) (λ more. gathered more lits)

-- a clause's variables, its signs, the right side of the parity that needs it, and its number
pub record Row : Type 0 where
  pub variables : List ℕ
  pub right : Bool
  pub signs : List Bool
  pub number : ℕ

abbrev pub row : List Literal → ℕ → Row
row lits n = record {
  variables = map (λ l. l.variable) lits;
  right = not (odd_sum (map (λ l. l.negative) lits));
  signs = map (λ l. l.negative) lits;
  number = n;
}

-- the row of a clause of two to six variables
abbrev pub rows_if : Option (List Literal) → ℕ → List Row
rows_if None n = []
rows_if (Some ms) n = if nat_le 2 (length ms) then row ms n ∷ [] else []

abbrev pub rows_of : ℕ → List (List Literal) → List Row
rows_of n [] = []
rows_of n (c ∷ cs) = rows_if (gathered [] c) n ++ rows_of (n + 1) cs

-- a row that says literals of two to six rising variables
pub record IsProper (x : Row) : Type 0 where
  pub lits : List Literal
  pub is : row lits x.number ≡ x
  pub rises : AreRising 1 MAX_VARIABLE (map (λ l. l.variable) lits)
  pub two : 2 ≤ length lits
  pub six : length lits ≤ 6

-- ---- orders

abbrev pub key_cmp : Row → Row → Ordering
key_cmp a b = ordering_then (slice_cmp nat_cmp a.variables b.variables) (bool_cmp a.right b.right)

abbrev pub shape_cmp : Row → Row → Ordering
shape_cmp a b = ordering_then (key_cmp a b) (slice_cmp bool_cmp a.signs b.signs)

abbrev pub row_cmp : Row → Row → Ordering
row_cmp a b = ordering_then (key_cmp a b) (ordering_then (slice_cmp bool_cmp a.signs b.signs) (nat_cmp a.number b.number))
