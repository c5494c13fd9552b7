use Rattle.cnfx_reader.proofs.SlotFormulaLaws.{begins}
use Rattle.cnfx_reader.proofs.slot_formula.SlotFormula.new.Goals as goal

pub returns : goal.returns
returns c = λ o. begins c.args.slot c.args.limit o c.new.result c.new-2.result c.new.ensures c.new-2.ensures
