use Rattle.proof_trim.proofs.MarkLaws.{marks_are_needed}
use Rattle.proof_trim.proofs.laws.marks_are_needed.Goals as goal

pub returns : goal.returns
returns c = marks_are_needed
