-- What is made of a piece of a formula's text, whatever follows it.
use Rattle.std.specs.Prelude.{◌≡◌, ◌≤◌, ◌+◌, ℕ, List, [], ◌∷◌, ◌++◌, length, drop, Result, Ok, Err}
use Rattle.cx_base.specs.Drafts.{Draft}
use Rattle.cx_base.specs.Endings.{finished}
use Rattle.cx_base.specs.declared.literal.TheConstants.{MAX_VARIABLE}
use Rattle.cx_texts.specs.Tokens.{Token}
use Rattle.cx_texts.specs.Words.{placed_formula_words}
use Rattle.cx_texts.specs.declared.offence.Offence.{Offence}
use Rattle.cnfx_reader.specs.Body.{Outcome, outcome, IsPendingIn, IsEndedBy}
use Rattle.cnfx_reader.specs.HeaderParts.{header_from, IsPartWithin}
use Rattle.cnfx_reader.specs.Refusals.{refusal_of}
use Rattle.cnfx_reader.specs.TokensLeft.{formula_tokens_within}
use Rattle.cnfx_reader.specs.declared.pending.Pending.TheVariants.{Nothing}
use Rattle.cnfx_reader.specs.declared.piece.Phase.{Phase}
use Rattle.cnfx_reader.specs.declared.piece.Phase.TheVariants.{Head, Body}
use Rattle.cnfx_reader.specs.declared.piece.PieceStep.{PieceStep}
use Rattle.cnfx_reader.specs.declared.refusal.ReadRefusal.{ReadRefusal}

-- before the body no constraint is open; the number of variables is within the limit
abbrev pub IsPhaseIn : Phase → Draft → Type 0
IsPhaseIn (Head part) d = IsPartWithin part × (d.unfinished ≡ [])
IsPhaseIn (Body v pending) d = (v ≤ MAX_VARIABLE) × IsPendingIn pending d

-- after a header: its number of variables, and what is read of the body
abbrev pub behind_header : ℕ → Draft → Result (ℕ × List Token) Offence → Result (ℕ × Outcome) Offence
behind_header len d (Ok h) = Ok (h.0, outcome len Nothing d (placed_formula_words h.1))
behind_header len d (Err offence) = Err offence

-- what is read of the tokens from here on
abbrev pub answer_from : Phase → ℕ → Draft → List Token → Result (ℕ × Outcome) Offence
answer_from (Head part) len d tokens = behind_header len d (header_from part len tokens)
answer_from (Body v pending) len d tokens = Ok (v, outcome len pending d (placed_formula_words tokens))

-- the refusal is that of the header, or it ends the body
abbrev pub IsRefusedBy : ReadRefusal → Result (ℕ × Outcome) Offence → Type 0
IsRefusedBy e (Ok read) = IsEndedBy e read.1.ending
IsRefusedBy e (Err offence) = e ≡ refusal_of offence

-- this many bytes were taken, whatever follows
pub record StepTaken (phase : Phase) (old : Draft) (place : ℕ) (bytes : List ℕ) (t : PieceStep) (new : Draft) : Type 0 where
  pub high : t.len ≤ length bytes
  pub fits : IsPhaseIn t.phase new
  pub same : (len : ℕ) (more : List ℕ) → answer_from phase len old (formula_tokens_within place (bytes ++ more)) ≡ answer_from t.phase len new (formula_tokens_within (place + t.len) (drop t.len bytes ++ more))

abbrev pub StepRefused : Phase → Draft → ℕ → List ℕ → ReadRefusal → Type 0
StepRefused phase old place bytes e = (len : ℕ) (more : List ℕ) → IsRefusedBy e (answer_from phase len old (formula_tokens_within place (bytes ++ more)))

-- one token was taken, whatever follows
abbrev pub TokenTaken : Phase → Draft → Token → Phase → Draft → Type 0
TokenTaken phase old token next new = IsPhaseIn next new × ((len : ℕ) (more : List Token) → answer_from phase len old (token ∷ more) ≡ answer_from next len new more)

abbrev pub TokenRefused : Phase → Draft → Token → ReadRefusal → Type 0
TokenRefused phase old token e = (len : ℕ) (more : List Token) → IsRefusedBy e (answer_from phase len old (token ∷ more))

-- the whole text was read as this number of variables and these constraints
abbrev pub IsWhole : ℕ → Draft → Result (ℕ × Outcome) Offence → Type 0
IsWhole v d read = (d.unfinished ≡ []) × (read ≡ Ok (v, record { constraints = d.constraints; ending = finished }))
