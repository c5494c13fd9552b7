use Rattle.std.proofs.Common.{arith}
use Rattle.cx_base.proofs.Parts.{both_kinds}
use Rattle.cnfx_reader.proofs.printing.put_header.Goals as goal

pub overflow_add-clause_count : goal.overflow_add-clause_count
overflow_add-clause_count g c = omega (arith, both_kinds c.args.formula.now.constraints, c.len-len.ensures.few, c.clause_count.ensures, c.parity_count.ensures)
