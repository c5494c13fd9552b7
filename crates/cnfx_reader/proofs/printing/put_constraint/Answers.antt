use Rattle.std.proofs.Common.{subst, ap, sym, ◌∙◌}
use Rattle.cx_base.specs.Borrowed.{constraint_of}
use Rattle.cx_base.specs.declared.constraint.ConstraintRef.{ConstraintRef}
use Rattle.cx_desk.specs.Outside.{Bytes}
use Rattle.cx_desk.specs.Calls.{PutsAll}
use Rattle.cnfx_reader.specs.PrintedFormula.{printed_constraint}
use Rattle.cnfx_reader.proofs.Puts.{clause_text, parity_text, assume_text}
use Rattle.cnfx_reader.proofs.printing.put_constraint.Goals as goal

pub returns-in-Clause : goal.returns-in-Clause
returns-in-Clause g c =
    let old = g.D.Desk.outside c.args.desk.now in
    let new = g.D.Desk.outside c.put_line.new.desk in
    subst (λ (t : Bytes). PutsAll c.args.port t old c.put_line.result new) (clause_text c.in-Clause.lits.now ∙ ap (λ (r : ConstraintRef). printed_constraint (constraint_of r)) (sym c.in-Clause.is)) c.put_line.ensures

pub returns-in-Parity : goal.returns-in-Parity
returns-in-Parity g c =
    let old = g.D.Desk.outside c.args.desk.now in
    let new = g.D.Desk.outside c.put_line-in-Parity.new.desk in
    subst (λ (t : Bytes). PutsAll c.args.port t old c.put_line-in-Parity.result new) (parity_text c.in-Parity.lits.now ∙ ap (λ (r : ConstraintRef). printed_constraint (constraint_of r)) (sym c.in-Parity.is)) c.put_line-in-Parity.ensures

pub returns-in-Assume : goal.returns-in-Assume
returns-in-Assume g c =
    let old = g.D.Desk.outside c.args.desk.now in
    let new = g.D.Desk.outside c.put_line-in-Assume.new.desk in
    subst (λ (t : Bytes). PutsAll c.args.port t old c.put_line-in-Assume.result new) (assume_text c.in-Assume.lits.now ∙ ap (λ (r : ConstraintRef). printed_constraint (constraint_of r)) (sym c.in-Assume.is)) c.put_line-in-Assume.ensures
