use Rattle.cnfx_reader.proofs.FormulaPrinting.{printed_reads}
use Rattle.cnfx_reader.proofs.laws.printed_formulas_read.Goals as goal

pub returns : goal.returns
returns c = λ formula within few. printed_reads formula within few
