-- What the reader of formulas from a slot answers.
use Rattle.std.specs.Prelude.{ℕ, Result, Ok, Err, MatchResult}
use Rattle.cx_base.specs.Drafts.{Draft}
use Rattle.cx_base.specs.Problem.{Problem, greatest_variable}
use Rattle.cx_desk.specs.declared.desk.Slot.{Slot}
use Rattle.cx_desk.specs.declared.calls.ReadErr.{ReadErr}
use Rattle.cx_desk.specs.declared.calls.ReadErr.TheVariants as why
use Rattle.cx_desk.specs.declared.draining.DrainErr.{DrainErr}
use Rattle.cx_desk.specs.declared.draining.DrainErr.TheVariants as drained
use Rattle.cx_desk.specs.Outside.{Bytes, Outside}
use Rattle.cx_desk.specs.Calls.{Whole, ReadFails}
use Rattle.cx_texts.specs.FormulaText.{Reads, FirstOffence}
use Rattle.cx_texts.specs.declared.offence.Offence.{Offence}
use Rattle.cx_texts.specs.declared.offence.Offence.TheVariants as offence
use Rattle.cnfx_reader.specs.declared.from_refusal.FromRefusal.{FromRefusal}
use Rattle.cnfx_reader.specs.declared.from_refusal.FromRefusal.TheVariants.{NoHeader, BadHeader, BadToken, Unterminated, VarLimit, Memory, Failed, TooLong}
use Rattle.cnfx_reader.specs.declared.refusal.ReadRefusal.{ReadRefusal}
use Rattle.cnfx_reader.specs.declared.refusal.ReadRefusal.TheVariants as read

abbrev pub from_read : ReadRefusal → FromRefusal
from_read (read.NoHeader place) = NoHeader place
from_read (read.BadHeader place) = BadHeader place
from_read (read.BadToken place) = BadToken place
from_read (read.Unterminated place) = Unterminated place
from_read (read.VarLimit place) = VarLimit place
from_read read.Memory = Memory

abbrev pub from_desk : ReadErr → FromRefusal
from_desk why.Memory = Memory
from_desk why.Failed = Failed
from_desk why.TooLong = TooLong

abbrev pub from_drained : DrainErr → FromRefusal
from_drained drained.Failed = Failed
from_drained drained.TooLong = TooLong

-- the whole text of the slot came, is within the limit, and its first offence is this one
abbrev pub GivesOffence : Slot → ℕ → Outside → Offence → Outside → Type 0
GivesOffence slot limit old o new = (text : Bytes) × Whole slot limit text old new × FirstOffence text o

-- the text's first offence, or out of memory, or a counted fault, or one byte past the limit
abbrev pub FromFails : Slot → ℕ → Outside → FromRefusal → Outside → Type 0
FromFails slot limit old (NoHeader place) new = GivesOffence slot limit old (offence.NoHeader place) new
FromFails slot limit old (BadHeader place) new = GivesOffence slot limit old (offence.BadHeader place) new
FromFails slot limit old (BadToken place) new = GivesOffence slot limit old (offence.BadToken place) new
FromFails slot limit old (Unterminated place) new = GivesOffence slot limit old (offence.Unterminated place) new
FromFails slot limit old (VarLimit place) new = GivesOffence slot limit old (offence.VarLimit place) new
FromFails slot limit old Memory new = ReadFails slot limit old why.Memory new
FromFails slot limit old Failed new = ReadFails slot limit old why.Failed new
FromFails slot limit old TooLong new = ReadFails slot limit old why.TooLong new

-- the whole text of the slot came, is within the limit, and is this formula, or there is none for this cause
abbrev pub ReadsFrom : Slot → ℕ → Outside → Result Problem FromRefusal → Outside → Type 0
ReadsFrom slot limit old result new = MatchResult result
    (λ formula. (text : Bytes) × Whole slot limit text old new × Reads text formula)
    (λ e. FromFails slot limit old e new)

-- the formula of these constraints, with this number of variables or more
abbrev pub formula_of : Result ℕ FromRefusal → Draft → Result Problem FromRefusal
formula_of (Ok v) d = Ok (record { variables = greatest_variable v d.constraints; constraints = d.constraints })
formula_of (Err e) d = Err e
