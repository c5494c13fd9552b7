-- What an integer says as a literal.
use Rattle.std.specs.Prelude.{◌≡◌, ℕ, ◌<◌, ◌≤◌, ℤ, pos, nat_abs, Bool, false, ◌==◌, List, [], ◌∷◌}
use Rattle.cx_base.specs.declared.literal.TheConstants.{MAX_VARIABLE}
use Rattle.cx_base.specs.Integers.{integer_of}
use Rattle.cx_texts.specs.declared.integer.Integer.{Integer}
use Rattle.cx_texts.specs.declared.integer.Integer.TheVariants.{Zero, Literal, Above}

abbrev pub IsInteger : Integer → ℤ → Type 0
IsInteger Zero z = z ≡ pos 0
IsInteger (Literal l) z = (z ≡ integer_of l) × (1 ≤ l.variable) × (l.variable ≤ MAX_VARIABLE)
IsInteger Above z = MAX_VARIABLE < nat_abs z

-- a minus comes first
abbrev pub begins_with_minus : List ℕ → Bool
begins_with_minus [] = false
begins_with_minus (b ∷ bs) = b == 45
