-- The grammar of formulas.
use Rattle.std.specs.Prelude.{◌≡◌, ℕ, List, [], ◌∷◌, length, nat_lt, Option, Some, None, Result, Ok, Err, if◌then◌else◌, ◌⊎◌, codes}
use Rattle.std.specs.Str.{bytes_eq}
use Rattle.cx_base.specs.Integers.{integers_of}
use Rattle.cx_base.specs.Problem.{Problem, greatest_variable}
use Rattle.cx_base.specs.declared.literal.TheConstants.{MAX_VARIABLE}
use Rattle.cx_base.specs.declared.constraint.Constraint.{Constraint}
use Rattle.cx_base.specs.declared.constraint.Constraint.TheVariants.{Clause, Parity, Assume}
use Rattle.cx_texts.specs.declared.offence.Offence.{Offence}
use Rattle.cx_texts.specs.declared.offence.Offence.TheVariants.{NoHeader, BadHeader, BadToken, Unterminated, VarLimit}
use Rattle.cx_texts.specs.Tokens.{Token, formula_tokens}
use Rattle.cx_texts.specs.Words.{placed_formula_words, natural}
use Rattle.cx_texts.specs.Grammar.{Field, mark, integers, Grammar, Reading}
use Rattle.cx_base.specs.Endings.{Ending, finished, bad_token, too_big, unterminated}

-- a clause is its literals and a zero, a parity has an `x` in front, and an assumption constraint an `a`
abbrev pub constraint_fields : Constraint → List Field
constraint_fields (Clause lits) = integers (integers_of lits) ∷ []
constraint_fields (Parity lits) = mark 120 ∷ integers (integers_of lits) ∷ []
constraint_fields (Assume lits) = mark 97 ∷ integers (integers_of lits) ∷ []

abbrev pub constraints : Grammar Constraint
constraints = record { fields = constraint_fields; limit = MAX_VARIABLE }

-- The header is `p`, `cnf` and two runs of digits: the first number and the tokens that follow, or the first offence.
abbrev pub behind_count : ℕ → ℕ → List Token → Result (ℕ × List Token) Offence
behind_count len v [] = Err (BadHeader len)
behind_count len v (t ∷ body) = elim (natural t.text) [ Some c ↦ Ok (v, body) | None ↦ Err (BadHeader t.place) ]

abbrev pub behind_cnf : ℕ → List Token → Result (ℕ × List Token) Offence
behind_cnf len [] = Err (BadHeader len)
behind_cnf len (t ∷ ts) = elim (natural t.text) [ Some v ↦ if nat_lt MAX_VARIABLE v then Err (VarLimit t.place) else behind_count len v ts | None ↦ Err (BadHeader t.place) ]

abbrev pub behind_p : ℕ → List Token → Result (ℕ × List Token) Offence
behind_p len [] = Err (BadHeader len)
behind_p len (t ∷ ts) = if bytes_eq t.text (codes "cnf") then behind_cnf len ts else Err (BadHeader t.place)

abbrev pub header : ℕ → List Token → Result (ℕ × List Token) Offence
header len [] = Err (NoHeader len)
header len (t ∷ ts) = if bytes_eq t.text (codes "p") then behind_p len ts else Err (NoHeader t.place)

-- after its header the text has these constraints and then this ending
pub record HasBody (text : List ℕ) (v : ℕ) (items : List Constraint) (ending : Ending) : Type 0 where
  pub body : List Token
  pub behind : header (length text) (formula_tokens text) ≡ Ok (v, body)
  pub reading : Reading constraints (length text) (placed_formula_words body) items ending

-- the text is this formula
pub record Reads (text : List ℕ) (formula : Problem) : Type 0 where
  pub v : ℕ
  pub items : HasBody text v formula.constraints finished
  pub variables : formula.variables ≡ greatest_variable v formula.constraints

-- the offence of an ending: a magnitude above the limit is a variable's
abbrev pub offence_of : Ending → Option Offence
offence_of finished = None
offence_of (bad_token place) = Some (BadToken place)
offence_of (too_big place) = Some (VarLimit place)
offence_of (unterminated place) = Some (Unterminated place)

-- the first offence in the text is this one
abbrev pub FirstOffence : List ℕ → Offence → Type 0
FirstOffence text offence = (header (length text) (formula_tokens text) ≡ Err offence)
    ⊎ ((v : ℕ) × (items : List Constraint) × (ending : Ending) × HasBody text v items ending × (offence_of ending ≡ Some offence))

-- the text is this formula, or its first offence is this one
abbrev pub ReadsAs : List ℕ → Result Problem Offence → Type 0
ReadsAs text (Ok formula) = Reads text formula
ReadsAs text (Err offence) = FirstOffence text offence
