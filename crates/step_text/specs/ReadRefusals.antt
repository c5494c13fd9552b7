-- The refusal that says why nothing more was read.
use Rattle.cx_desk.specs.declared.calls.ReadErr.{ReadErr}
use Rattle.cx_desk.specs.declared.calls.ReadErr.TheVariants as why
use Rattle.step_text.specs.declared.source.TextRefusal.{TextRefusal}
use Rattle.step_text.specs.declared.source.TextRefusal.TheVariants.{Memory, Failed, TooLong}

abbrev pub refusal_of_read : ReadErr → TextRefusal
refusal_of_read why.Memory = Memory
refusal_of_read why.Failed = Failed
refusal_of_read why.TooLong = TooLong
