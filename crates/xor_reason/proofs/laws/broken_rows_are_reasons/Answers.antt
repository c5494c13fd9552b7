use Rattle.xor_reason.proofs.EventLaws.{broken_is_missed}
use Rattle.xor_reason.proofs.laws.broken_rows_are_reasons.Goals as goal

pub returns : goal.returns
returns c = broken_is_missed
