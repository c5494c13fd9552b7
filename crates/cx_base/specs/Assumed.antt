-- Marks at the codes of the literals that a formula assumes.
use Rattle.std.specs.Prelude.{◌≡◌, ◌≤◌, ◌<◌, ◌+◌, ◌*◌, ◌/◌, ◌%◌, ◌&&◌, ℕ, Bool, eqb, List, get_or, length, IsTrue, IsFalse, ⊤}
use Rattle.std.specs.Int.{bit_at}
use Rattle.cx_base.specs.Literals.{Literal, code_of, positive_of, negative_of}
use Rattle.cx_base.specs.Assumptions.{assumes}
use Rattle.cx_base.specs.declared.literal.TheConstants.{MAX_VARIABLE}
use Rattle.cx_base.specs.declared.constraint.Constraint.{Constraint}
use Rattle.cx_base.specs.declared.formula.ConstraintKind.{ConstraintKind}
use Rattle.cx_base.specs.declared.formula.ConstraintKind.TheVariants as kind

abbrev pub word_bit : ℕ → ℕ → Bool
word_bit word i = eqb (bit_at word i) 1

-- a mark is a bit, 64 to a word
abbrev pub has_bit : List ℕ → ℕ → Bool
has_bit words c = word_bit (get_or words (c / 64) 0) (c % 64)

-- whether there is a mark at the literal's code
abbrev pub is_marked : List ℕ → Literal → Bool
is_marked marks l = has_bit marks (code_of l)

-- whether the word has the marks of both literals of its variable j, of 32
abbrev pub has_pair : ℕ → ℕ → Bool
has_pair word j = word_bit word (2 * j) && word_bit word (2 * j + 1)

-- whether both literals of the variable have a mark
abbrev pub are_both_marked : List ℕ → ℕ → Bool
are_both_marked marks x = is_marked marks (positive_of x) && is_marked marks (negative_of x)

-- just the assumed literals have a mark, and there are no more words than all literals need
pub record AreAssumed (marks : List ℕ) (constraints : List Constraint) : Type 0 where
  pub marked : (l : Literal) → is_marked marks l ≡ assumes constraints l
  pub few : length marks ≤ MAX_VARIABLE / 32 + 1

-- the words have a bit for each literal up to the greatest variable, if a constraint of the kind needs one
abbrev pub HasRoom : ConstraintKind → ℕ → ℕ → Type 0
HasRoom kind.Clause greatest words = ⊤
HasRoom kind.Parity greatest words = ⊤
HasRoom kind.Assume greatest words = greatest < 32 * words

-- no variable has both of its literals marked
abbrev pub IsNoneBoth : List ℕ → Type 0
IsNoneBoth marks = (y : ℕ) → 1 ≤ y → IsFalse (are_both_marked marks y)

-- the least variable that has
pub record IsFirstBoth (marks : List ℕ) (x : ℕ) : Type 0 where
  pub positive : 1 ≤ x
  pub both : IsTrue (are_both_marked marks x)
  pub least : (y : ℕ) → 1 ≤ y → y < x → IsFalse (are_both_marked marks y)
