-- Plain words: a command with its names and values in their order and its options anywhere, each at
-- most once. Nothing here speaks of clap.
use Rattle.std.specs.Prelude.{◌≡◌, ◌≢◌, ◌⊎◌, ◌≤◌, ◌==◌, ℕ, Bool, true, false, not, List, [], ◌∷◌, codes, Option, Some, None, IfSome, flat_map}
use Rattle.std.specs.List.{list_all}
use Rattle.std.specs.Char.{is_ascii_digit}
use Rattle.std.specs.Str.Parse.{digits_value}
use Rattle.cx_desk.specs.Outside.{Bytes}
use Rattle.inst_gen.specs.declared.kind.InstanceKind.{InstanceKind}
use Rattle.inst_gen.specs.declared.kind.InstanceKind.TheVariants.{Even, Odd}
use Rattle.cx_words.specs.declared.plans.Plan.{Plan}
use Rattle.cx_words.specs.declared.plans.SearchOptions.{SearchOptions}
use Rattle.cx_words.specs.declared.plans.Plan.TheVariants as plan

-- ---- names and numbers

-- the text is not empty and does not begin with a dash
abbrev pub is_name : Bytes → Bool
is_name [] = false
is_name (b ∷ rest) = not (b == 45)

abbrev pub IsName : Bytes → Type 0
IsName name = is_name name ≡ true

-- a name, or a dash alone: the standard input
abbrev pub IsFormulaName : Bytes → Type 0
IsFormulaName name = IsName name ⊎ (name ≡ codes "-")

-- digits alone, which spell this number
pub record Spells (text : Bytes) (number : ℕ) : Type 0 where
  pub some : text ≢ []
  pub digits : list_all is_ascii_digit text ≡ true
  pub value : digits_value 10 text ≡ number

pub record SpellsWithin (least most : ℕ) (text : Bytes) (number : ℕ) : Type 0 where
  pub spelt : Spells text number
  pub least_met : least ≤ number
  pub most_met : number ≤ most

-- the word for a kind of instance
abbrev pub kind_word : InstanceKind → Bytes
kind_word Even = codes "even"
kind_word Odd = codes "odd"

-- ---- solve

-- an argument of `solve`: FORMULA, `--proof LOG`, `--conflicts N` or `--inprocess`
pub data Argument : Type 0 where
  formula_word : Bytes → Argument
  proof_option : Bytes → Argument
  conflicts_option : Bytes → Argument
  inprocess_option : Argument

-- its words: the value of an option, where it has one, is the next word
abbrev pub words_of : Argument → List Bytes
words_of (formula_word name) = name ∷ []
words_of (proof_option name) = codes "--proof" ∷ name ∷ []
words_of (conflicts_option text) = codes "--conflicts" ∷ text ∷ []
words_of inprocess_option = codes "--inprocess" ∷ []

abbrev pub formula_in : Argument → List Bytes
formula_in (formula_word name) = name ∷ []
formula_in _ = []

abbrev pub log_in : Argument → List Bytes
log_in (proof_option name) = name ∷ []
log_in _ = []

abbrev pub conflicts_in : Argument → List Bytes
conflicts_in (conflicts_option text) = text ∷ []
conflicts_in _ = []

abbrev pub flags_in : Argument → List Bytes
flags_in inprocess_option = codes "--inprocess" ∷ []
flags_in _ = []

-- what may be left out, as a list of one or none
abbrev pub listed : Option Bytes → List Bytes
listed None = []
listed (Some text) = text ∷ []

-- the word of the flag, where it is set
abbrev pub flagged : Bool → List Bytes
flagged false = []
flagged true = codes "--inprocess" ∷ []

-- a number of conflicts from 1 to 10^18, or a million where none is given
abbrev pub IsBudget : Option Bytes → ℕ → Type 0
IsBudget None number = number ≡ 1000000
IsBudget (Some text) number = SpellsWithin 1 1000000000000000000 text number

-- `solve` with its arguments in any order: FORMULA once, each option at most once
pub record PlainSolve (formula : Bytes) (log : Option Bytes) (options : SearchOptions) (words : List Bytes) : Type 0 where
  pub program : Bytes
  pub arguments : List Argument
  pub number_text : Option Bytes
  pub spelt : words ≡ program ∷ codes "solve" ∷ flat_map words_of arguments
  pub formula_once : flat_map formula_in arguments ≡ formula ∷ []
  pub log_at_most_once : flat_map log_in arguments ≡ listed log
  pub conflicts_at_most_once : flat_map conflicts_in arguments ≡ listed number_text
  pub inprocess_at_most_once : flat_map flags_in arguments ≡ flagged options.inprocess
  pub formula_name : IsFormulaName formula
  pub log_name : IfSome log IsName
  pub differ : IfSome log (λ l. formula ≢ l)
  pub budget : IsBudget number_text options.conflicts

-- ---- the commands without options

pub record PlainCheck (formula proof : Bytes) (words : List Bytes) : Type 0 where
  pub program : Bytes
  pub spelt : words ≡ program ∷ codes "check" ∷ formula ∷ proof ∷ []
  pub formula_name : IsFormulaName formula
  pub proof_name : IsName proof
  pub differ : formula ≢ proof

pub record PlainElab (formula log proof : Bytes) (words : List Bytes) : Type 0 where
  pub program : Bytes
  pub spelt : words ≡ program ∷ codes "elab" ∷ formula ∷ log ∷ proof ∷ []
  pub formula_name : IsFormulaName formula
  pub log_name : IsName log
  pub proof_name : IsName proof
  pub differ : (formula ≢ log) × (formula ≢ proof) × (log ≢ proof)

pub record PlainModel (formula answer : Bytes) (words : List Bytes) : Type 0 where
  pub program : Bytes
  pub spelt : words ≡ program ∷ codes "model" ∷ formula ∷ answer ∷ []
  pub formula_name : IsFormulaName formula
  pub answer_name : IsName answer
  pub differ : formula ≢ answer

pub record PlainDemo (kind : InstanceKind) (size seed : ℕ) (words : List Bytes) : Type 0 where
  pub program : Bytes
  pub size_text : Bytes
  pub seed_text : Bytes
  pub spelt : words ≡ program ∷ codes "demo" ∷ kind_word kind ∷ size_text ∷ seed_text ∷ []
  pub size_number : SpellsWithin 4 2000 size_text size
  pub seed_number : SpellsWithin 0 18446744073709551615 seed_text seed

pub record PlainTrim (formula proof out : Bytes) (words : List Bytes) : Type 0 where
  pub program : Bytes
  pub spelt : words ≡ program ∷ codes "trim" ∷ formula ∷ proof ∷ out ∷ []
  pub formula_name : IsFormulaName formula
  pub proof_name : IsName proof
  pub out_name : IsName out
  pub differ : (formula ≢ proof) × (formula ≢ out) × (proof ≢ out)

pub record PlainBlast (formula out : Bytes) (words : List Bytes) : Type 0 where
  pub program : Bytes
  pub spelt : words ≡ program ∷ codes "blast" ∷ formula ∷ out ∷ []
  pub formula_name : IsFormulaName formula
  pub out_name : IsName out
  pub differ : formula ≢ out

pub record PlainAffine (formula : Bytes) (words : List Bytes) : Type 0 where
  pub program : Bytes
  pub spelt : words ≡ program ∷ codes "affine" ∷ formula ∷ []
  pub formula_name : IsFormulaName formula

-- the words are plain and ask for the plan
abbrev pub IsPlain : List Bytes → Plan → Type 0
IsPlain words (plan.Solve formula log options) = PlainSolve formula log options words
IsPlain words (plan.Check formula proof) = PlainCheck formula proof words
IsPlain words (plan.Elab formula log proof) = PlainElab formula log proof words
IsPlain words (plan.Model formula answer) = PlainModel formula answer words
IsPlain words (plan.Demo kind size seed) = PlainDemo kind size seed words
IsPlain words (plan.Trim formula proof out) = PlainTrim formula proof out words
IsPlain words (plan.Blast formula out) = PlainBlast formula out words
IsPlain words (plan.Affine formula) = PlainAffine formula words
