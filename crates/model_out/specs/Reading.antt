-- The reading of the `v` lines, one token at a time.
use Rattle.std.specs.Prelude.{◌≡◌, ◌≢◌, ℕ, zero, suc, ℤ, pos, negsuc, List, [], ◌∷◌, ◌++◌, Option, Some, None, Result, Ok, Err}
use Rattle.model_out.specs.LineTokens.{LineToken}
use Rattle.model_out.specs.Answers.{Part, mark, number, strange, part_of}
use Rattle.model_out.specs.Mentions.{AreMentionsOf}
use Rattle.model_out.specs.declared.mentions.Mention.{Mention}
use Rattle.model_out.specs.declared.read.TokenEffect.{TokenEffect}
use Rattle.model_out.specs.declared.read.TokenEffect.TheVariants.{GoesOn, Ends}
use Rattle.model_out.specs.declared.refusal.AnswerRefusal.{AnswerRefusal}
use Rattle.model_out.specs.declared.refusal.AnswerRefusal.TheVariants.{NoStatusLine, BadToken, Missing, Twice, Unmet, Memory}
use Rattle.model_out.specs.declared.line_tokens.LineTokenAt.{LineTokenAt}

pub data Scan : Type 0 where
  whole : List ℤ → Scan
  bad : ℕ → Scan

-- after the zero
abbrev pub scan_end : List ℤ → List LineToken → Scan
scan_end lits [] = whole lits
scan_end lits (t ∷ ts) = bad t.place

-- one token's part, and what follows the integers so far
abbrev pub at_part : ℕ → List ℤ → List LineToken → (List ℤ → Scan) → Part → Scan
at_part place lits ts next mark = next lits
at_part place lits ts next (number (pos zero)) = scan_end lits ts
at_part place lits ts next (number (pos (suc n))) = next (lits ++ pos (suc n) ∷ [])
at_part place lits ts next (number (negsuc n)) = next (lits ++ negsuc n ∷ [])
at_part place lits ts next strange = bad place

-- what is left, after these integers; len is the text's length
abbrev pub scan : ℕ → List ℤ → List LineToken → Scan
scan len lits [] = bad len
scan len lits (t ∷ ts) = at_part t.place lits ts (λ more. scan len more ts) (part_of t)

abbrev pub seen : LineTokenAt → LineToken
seen t = record { place = t.place; begins = t.begins; text = t.text.now }

-- a token that was taken already, and those that are left after it
abbrev pub ahead : Option LineTokenAt → List LineToken → List LineToken
ahead None rest = []
ahead (Some t) rest = seen t ∷ rest

-- the body is scanned to integers that the table tells, or to a bad place
abbrev pub ScansTo : {T : Type 0} → ℕ → List LineToken → Result T AnswerRefusal → List Mention → Type 0
ScansTo len body (Ok done) table = (lits : List ℤ) × (scan len [] body ≡ whole lits) × AreMentionsOf lits table
ScansTo len body (Err NoStatusLine) table = ⊥
ScansTo len body (Err (BadToken place)) table = scan len [] body ≡ bad place
ScansTo len body (Err (Missing x)) table = ⊥
ScansTo len body (Err (Twice x)) table = ⊥
ScansTo len body (Err (Unmet k)) table = ⊥
ScansTo len body (Err Memory) table = ⊥

-- one token was taken: the scan goes on with more integers that the table tells, or has ended with these, or is bad
abbrev pub TurnsTo : ℕ → List ℤ → LineToken → List LineToken → Result TokenEffect AnswerRefusal → List Mention → Type 0
TurnsTo len lits t rest (Ok GoesOn) table = (more : List ℤ) × (scan len lits (t ∷ rest) ≡ scan len more rest) × AreMentionsOf more table
TurnsTo len lits t rest (Ok Ends) table = (scan len lits (t ∷ rest) ≡ scan_end lits rest) × AreMentionsOf lits table
TurnsTo len lits t rest (Err NoStatusLine) table = ⊥
TurnsTo len lits t rest (Err (BadToken place)) table = scan len lits (t ∷ rest) ≡ bad place
TurnsTo len lits t rest (Err (Missing x)) table = ⊥
TurnsTo len lits t rest (Err (Twice x)) table = ⊥
TurnsTo len lits t rest (Err (Unmet k)) table = ⊥
TurnsTo len lits t rest (Err Memory) table = ⊥

-- one integer was taken: it follows the others, or it is the zero
abbrev pub TakesTo : ℤ → List ℤ → TokenEffect → List Mention → Type 0
TakesTo z lits GoesOn table = (z ≢ pos 0) × AreMentionsOf (lits ++ z ∷ []) table
TakesTo z lits Ends table = (z ≡ pos 0) × AreMentionsOf lits table

-- no token is left after the zero
abbrev pub EndsTo : {T : Type 0} → List ℤ → List LineToken → Result T AnswerRefusal → Type 0
EndsTo lits ts (Ok done) = scan_end lits ts ≡ whole lits
EndsTo lits ts (Err NoStatusLine) = ⊥
EndsTo lits ts (Err (BadToken place)) = scan_end lits ts ≡ bad place
EndsTo lits ts (Err (Missing x)) = ⊥
EndsTo lits ts (Err (Twice x)) = ⊥
EndsTo lits ts (Err (Unmet k)) = ⊥
EndsTo lits ts (Err Memory) = ⊥
