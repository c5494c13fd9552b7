use Rattle.std.proofs.Common.{refl, flat_map, arith}
use Rattle.std.proofs.lemmas.Result.{err_from_is_err_and}
use Rattle.cnfx_reader.specs.PrintedFormula.{printed_constraint, printed_header, printed_formula}
use Rattle.cnfx_reader.proofs.Puts.{first_fails, two_puts}
use Rattle.cnfx_reader.proofs.FormulaPrinting.{printed_reads}
use Rattle.cnfx_reader.proofs.printing.put_formula.Goals as goal

pub returns-in_err-put_header-clause-put : goal.returns-in_err-put_header-clause-put
returns-in_err-put_header-clause-put g c =
    let p = err_from_is_err_and c.from_residual.result c.from_residual.ensures.1 in
    let formula = c.args.formula.now in
    let old = g.D.Desk.outside c.args.desk.now in
    let new = g.D.Desk.outside c.put_header.new.desk in
    rw p.1 (first_fails c.args.port (printed_header formula) (flat_map printed_constraint formula.constraints) (printed_formula formula) old new refl c.in_err-put_header.ensures)

pub returns-in_err-put_header-clause-reads : goal.returns-in_err-put_header-clause-reads
returns-in_err-put_header-clause-reads g c = printed_reads c.args.formula.now c.vars-vars.ensures.within (let few = c.len-len.ensures.few in omega (arith, few))

pub returns-clause-put : goal.returns-clause-put
returns-clause-put g c =
    let formula = c.args.formula.now in
    let old = g.D.Desk.outside c.args.desk.now in
    let mid = g.D.Desk.outside c.put_header.new.desk in
    let new = g.D.Desk.outside c.put_constraints.new.desk in
    two_puts c.args.port (printed_header formula) (flat_map printed_constraint formula.constraints) (printed_formula formula) old mid new c.put_constraints.result refl c.in_ok-put_header.ensures c.put_constraints.ensures

pub returns-clause-reads : goal.returns-clause-reads
returns-clause-reads g c = printed_reads c.args.formula.now c.vars-vars.ensures.within (let few = c.len-len.ensures.few in omega (arith, few))
