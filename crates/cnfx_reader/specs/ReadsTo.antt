-- What the reader of formulas answers.
use Rattle.std.specs.Prelude.{ℕ, List, Result, Ok, Err, ⊤}
use Rattle.cx_base.specs.Problem.{Problem}
use Rattle.cx_texts.specs.FormulaText.{Reads, FirstOffence}
use Rattle.cx_texts.specs.declared.offence.Offence.TheVariants as offence
use Rattle.cnfx_reader.specs.declared.refusal.ReadRefusal.{ReadRefusal}
use Rattle.cnfx_reader.specs.declared.refusal.ReadRefusal.TheVariants.{NoHeader, BadHeader, BadToken, Unterminated, VarLimit, Memory}

-- the refusal is the first offence of the text; out of memory says nothing of it
abbrev pub IsRefusedAs : List ℕ → ReadRefusal → Type 0
IsRefusedAs text (NoHeader place) = FirstOffence text (offence.NoHeader place)
IsRefusedAs text (BadHeader place) = FirstOffence text (offence.BadHeader place)
IsRefusedAs text (BadToken place) = FirstOffence text (offence.BadToken place)
IsRefusedAs text (Unterminated place) = FirstOffence text (offence.Unterminated place)
IsRefusedAs text (VarLimit place) = FirstOffence text (offence.VarLimit place)
IsRefusedAs text Memory = ⊤

-- the text is this formula, or is refused so
abbrev pub ReadsTo : List ℕ → Result Problem ReadRefusal → Type 0
ReadsTo text (Ok formula) = Reads text formula
ReadsTo text (Err refusal) = IsRefusedAs text refusal
