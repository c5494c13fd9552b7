-- What an answer says of a formula.
use Rattle.std.specs.Prelude.{◌≡◌, ◌≢◌, ℕ, ◌<◌, ◌≤◌, ℤ, pos, neg_ℤ, nat_abs, Bool, ◌&&◌, not, ◌==◌, if◌then◌else◌, cond, List, [], ◌∷◌, ◌++◌, length, filter, Option, Some, None, Result, Ok, Err, codes, ⊤}
use Rattle.std.specs.List.{AllByRecursion}
use Rattle.std.specs.Str.{bytes_eq}
use Rattle.cx_base.specs.Literals.{value_of}
use Rattle.cx_base.specs.Problem.{Problem, Meets, first_unmet}
use Rattle.cx_texts.specs.Words.{integer}
use Rattle.model_out.specs.LineTokens.{LineToken, line_tokens, begins_line}
use Rattle.model_out.specs.declared.refusal.AnswerRefusal.{AnswerRefusal}
use Rattle.model_out.specs.declared.refusal.AnswerRefusal.TheVariants.{NoStatusLine, BadToken, Missing, Twice, Unmet, Memory}

-- the tokens after the first line, where that has exactly the tokens `s` and `SATISFIABLE`
abbrev pub behind_status : List LineToken → Option (List LineToken)
behind_status [] = None
behind_status (s ∷ []) = None
behind_status (s ∷ t ∷ body) = if bytes_eq s.text (codes "s") && (bytes_eq t.text (codes "SATISFIABLE") && (not t.begins && begins_line body)) then Some body else None

-- what a token of the `v` lines says
pub data Part : Type 0 where
  -- the `v` that begins a line
  mark : Part
  -- an integer follows it
  number : ℤ → Part
  -- nothing that may be there
  strange : Part

abbrev pub number_or_strange : Option ℤ → Part
number_or_strange (Some z) = number z
number_or_strange None = strange

abbrev pub part_of : LineToken → Part
part_of t = if t.begins then (if bytes_eq t.text (codes "v") then mark else strange) else number_or_strange (integer t.text)

-- the `v` of a line, or an integer that is not zero
abbrev pub GoesOn : Part → Type 0
GoesOn mark = ⊤
GoesOn (number z) = z ≢ pos 0
GoesOn strange = ⊥

abbrev pub AllGoOn : List LineToken → Type 0
AllGoOn ts = AllByRecursion (λ t. GoesOn (part_of t)) ts

-- the integers, in order
abbrev pub onto_numbers : Part → List ℤ → List ℤ
onto_numbers mark zs = zs
onto_numbers (number z) zs = z ∷ zs
onto_numbers strange zs = zs

abbrev pub numbers : List LineToken → List ℤ
numbers [] = []
numbers (t ∷ ts) = onto_numbers (part_of t) (numbers ts)

-- after the status line come these integers in `v` lines, and a zero as the last token
pub record IsAnswer (text : List ℕ) (lits : List ℤ) : Type 0 where
  pub front : List LineToken
  pub last : LineToken
  pub status : behind_status (line_tokens text) ≡ Some (front ++ last ∷ [])
  pub goes_on : AllGoOn front
  pub ends : part_of last ≡ number (pos 0)
  pub literals : lits ≡ numbers front

-- the first token against this form: one that may not be in its place
pub record IsStrange (body : List LineToken) (place : ℕ) : Type 0 where
  pub front : List LineToken
  pub bad : LineToken
  pub rest : List LineToken
  pub split : body ≡ front ++ bad ∷ rest
  pub goes_on : AllGoOn front
  pub is_strange : part_of bad ≡ strange
  pub at : place ≡ bad.place

-- or the one after a zero
pub record IsBehindZero (body : List LineToken) (place : ℕ) : Type 0 where
  pub front : List LineToken
  pub zero : LineToken
  pub bad : LineToken
  pub rest : List LineToken
  pub split : body ≡ front ++ zero ∷ bad ∷ rest
  pub goes_on : AllGoOn front
  pub ends : part_of zero ≡ number (pos 0)
  pub at : place ≡ bad.place

-- or none, where the zero is missing at the end of the text
pub record IsUnended (len : ℕ) (body : List LineToken) (place : ℕ) : Type 0 where
  pub goes_on : AllGoOn body
  pub at : place ≡ len

pub data FirstBad (len : ℕ) (body : List LineToken) (place : ℕ) : Type 0 where
  at_strange : IsStrange body place → FirstBad len body place
  behind_zero : IsBehindZero body place → FirstBad len body place
  at_end : IsUnended len body place → FirstBad len body place

-- the literals of variable x among the integers, in order
abbrev pub written_of : List ℤ → ℕ → List ℤ
written_of lits x = filter (λ z. nat_abs z == x) lits

-- x where it is true, and -x where it is false
abbrev pub as_literal : Bool → ℕ → ℤ
as_literal value x = cond value (pos x) (neg_ℤ (pos x))

abbrev pub IsVariable : Problem → ℕ → Type 0
IsVariable formula x = (1 ≤ x) × (x ≤ formula.variables)

-- each variable is written once, with its value; literals of variables above the formula's number say nothing
pub record Gives (formula : Problem) (lits : List ℤ) (values : List Bool) : Type 0 where
  pub one_each : length values ≡ formula.variables
  pub as_written : (x : ℕ) → IsVariable formula x → written_of lits x ≡ as_literal (value_of values x) x ∷ []

-- the text is an answer that gives these values, and they meet the formula
pub record AnswerReads (text : List ℕ) (formula : Problem) (values : List Bool) : Type 0 where
  pub lits : List ℤ
  pub form : IsAnswer text lits
  pub gives : Gives formula lits values
  pub meets : Meets formula values

-- x is the least variable of which this holds
pub record LeastVariable (formula : Problem) (P : ℕ → Type 0) (x : ℕ) : Type 0 where
  pub is_variable : IsVariable formula x
  pub holds : P x
  pub not_below : (y : ℕ) → IsVariable formula y → y < x → ¬ P y

abbrev pub IsMissing : List ℤ → ℕ → Type 0
IsMissing lits x = written_of lits x ≡ []

abbrev pub IsRepeated : List ℤ → ℕ → Type 0
IsRepeated lits x = 2 ≤ length (written_of lits x)

pub record FirstMissing (text : List ℕ) (formula : Problem) (x : ℕ) : Type 0 where
  pub lits : List ℤ
  pub form : IsAnswer text lits
  pub least : LeastVariable formula (IsMissing lits) x

pub record FirstTwice (text : List ℕ) (formula : Problem) (x : ℕ) : Type 0 where
  pub lits : List ℤ
  pub form : IsAnswer text lits
  pub none_missing : (y : ℕ) → IsVariable formula y → ¬ IsMissing lits y
  pub least : LeastVariable formula (IsRepeated lits) x

pub record FirstUnmet (text : List ℕ) (formula : Problem) (k : ℕ) : Type 0 where
  pub lits : List ℤ
  pub form : IsAnswer text lits
  pub values : List Bool
  pub gives : Gives formula lits values
  pub unmet : first_unmet values 1 formula.constraints ≡ Some k

pub record BadAt (text : List ℕ) (place : ℕ) : Type 0 where
  pub body : List LineToken
  pub status : behind_status (line_tokens text) ≡ Some body
  pub first_bad : FirstBad (length text) body place

-- the first cause for which the text is no answer; a lack of memory says nothing of it
abbrev pub AnswerRefusedFor : List ℕ → Problem → AnswerRefusal → Type 0
AnswerRefusedFor text formula NoStatusLine = behind_status (line_tokens text) ≡ None
AnswerRefusedFor text formula (BadToken place) = BadAt text place
AnswerRefusedFor text formula (Missing x) = FirstMissing text formula x
AnswerRefusedFor text formula (Twice x) = FirstTwice text formula x
AnswerRefusedFor text formula (Unmet k) = FirstUnmet text formula k
AnswerRefusedFor text formula Memory = ⊤

-- the text gives these values, or is refused for this cause
abbrev pub AnswersAs : List ℕ → Problem → Result (List Bool) AnswerRefusal → Type 0
AnswersAs text formula (Ok values) = AnswerReads text formula values
AnswersAs text formula (Err refusal) = AnswerRefusedFor text formula refusal
