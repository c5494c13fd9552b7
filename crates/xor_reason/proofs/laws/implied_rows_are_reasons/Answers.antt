use Rattle.xor_reason.proofs.EventLaws.{implied_is_met}
use Rattle.xor_reason.proofs.laws.implied_rows_are_reasons.Goals as goal

pub returns : goal.returns
returns c = implied_is_met
