-- What is read of a piece of a formula's body.
use Rattle.std.specs.Prelude.{◌≡◌, ℕ, List, [], ◌∷◌, ◌++◌, Option, Some, None}
use Rattle.cx_base.specs.Drafts.{Draft}
use Rattle.cx_texts.specs.Tokens.{Token}
use Rattle.cx_texts.specs.Words.{placed_formula_words}
use Rattle.cnfx_reader.specs.Body.{outcome, IsPendingIn, IsEndedBy}
use Rattle.cnfx_reader.specs.declared.body.PieceRead.{PieceRead}
use Rattle.cnfx_reader.specs.declared.pending.Pending.{Pending}
use Rattle.cnfx_reader.specs.declared.refusal.ReadRefusal.{ReadRefusal}

-- the tokens but the last were taken, whatever follows
pub record AllButLast (pending : Pending) (old : Draft) (tokens : List Token) (read : PieceRead) (new : Draft) : Type 0 where
  pub before : List Token
  pub last : Token
  pub split : tokens ≡ before ++ last ∷ []
  pub at : read.last ≡ last.place
  pub fits : IsPendingIn read.pending new
  pub same : (len : ℕ) (more : List Token) → outcome len pending old (placed_formula_words (tokens ++ more)) ≡ outcome len read.pending new (placed_formula_words (last ∷ more))

-- the tokens but the last were taken, or there are none
abbrev pub PieceTaken : Pending → Draft → List Token → Option PieceRead → Draft → Type 0
PieceTaken pending old tokens None new = (tokens ≡ []) × (new ≡ old)
PieceTaken pending old tokens (Some read) new = AllButLast pending old tokens read new

-- a token is the first that does not fit, whatever follows
abbrev pub PieceRefused : Pending → Draft → List Token → ReadRefusal → Type 0
PieceRefused pending old tokens e = (len : ℕ) (more : List Token) → IsEndedBy e (outcome len pending old (placed_formula_words (tokens ++ more))).ending
