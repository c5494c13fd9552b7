-- The refusal that says an offence.
use Rattle.cx_texts.specs.declared.offence.Offence.{Offence}
use Rattle.cx_texts.specs.declared.offence.Offence.TheVariants as offence
use Rattle.cnfx_reader.specs.declared.refusal.ReadRefusal.{ReadRefusal}
use Rattle.cnfx_reader.specs.declared.refusal.ReadRefusal.TheVariants.{NoHeader, BadHeader, BadToken, Unterminated, VarLimit}

abbrev pub refusal_of : Offence → ReadRefusal
refusal_of (offence.NoHeader place) = NoHeader place
refusal_of (offence.BadHeader place) = BadHeader place
refusal_of (offence.BadToken place) = BadToken place
refusal_of (offence.Unterminated place) = Unterminated place
refusal_of (offence.VarLimit place) = VarLimit place
