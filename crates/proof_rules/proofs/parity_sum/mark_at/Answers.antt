use Rattle.std.proofs.Common.{sym}
use Rattle.std.proofs.lemmas.List.{get_or_past}
use Rattle.proof_rules.specs.declared.parity_sum.Mark.TheVariants.{Unmet}
use Rattle.proof_rules.proofs.parity_sum.mark_at.Goals as goal

pub returns-else-place-marks : goal.returns-else-place-marks
returns-else-place-marks c = sym (get_or_past c.args.marks.now c.args.place Unmet c.if-place-marks.false)
