-- What the judges answer.
use Rattle.std.specs.Prelude.{List, Result, Ok, Err, ⊤}
use Rattle.cx_semantics.specs.Judging.{Rule, AllHold, FirstFailure}
use Rattle.proof_rules.specs.declared.refusal.JudgeRefusal.{JudgeRefusal}
use Rattle.proof_rules.specs.declared.refusal.JudgeRefusal.TheVariants.{Wrong, Memory}

-- the cause is that of the first rule that fails; out of memory says nothing of the rules
abbrev pub IsRefusedBy : List Rule → JudgeRefusal → Type 0
IsRefusedBy rules (Wrong cause) = FirstFailure rules cause
IsRefusedBy rules Memory = ⊤

-- all rules hold, or the first that fails is answered
abbrev pub JudgesBy : {T : Type 0} → List Rule → Result T JudgeRefusal → Type 0
JudgesBy rules (Ok done) = AllHold rules
JudgesBy rules (Err refusal) = IsRefusedBy rules refusal
