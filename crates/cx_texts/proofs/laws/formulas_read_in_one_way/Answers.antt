use Rattle.cx_texts.proofs.TextLaws.{one_formula_reading}
use Rattle.cx_texts.proofs.laws.formulas_read_in_one_way.Goals as goal

pub returns : goal.returns
returns c = one_formula_reading
