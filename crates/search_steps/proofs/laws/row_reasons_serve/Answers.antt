use Rattle.search_steps.proofs.RoundEnds.{row_reason_serves}
use Rattle.search_steps.proofs.laws.row_reasons_serve.Goals as goal

pub returns : goal.returns
returns c = row_reason_serves
