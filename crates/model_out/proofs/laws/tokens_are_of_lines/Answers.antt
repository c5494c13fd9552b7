use Rattle.model_out.proofs.LineLaws.{of_its_lines}
use Rattle.model_out.proofs.laws.tokens_are_of_lines.Goals as goal

pub returns : goal.returns
returns c = of_its_lines
