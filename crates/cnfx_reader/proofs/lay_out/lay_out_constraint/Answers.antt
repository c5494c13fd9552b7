use Rattle.std.proofs.Common.{subst, ap, sym, ◌∙◌, IfSome}
use Rattle.cx_base.specs.Borrowed.{constraint_of}
use Rattle.cx_base.specs.declared.constraint.ConstraintRef.{ConstraintRef}
use Rattle.cx_desk.specs.Outside.{Bytes}
use Rattle.cnfx_reader.specs.Groups.{IsLaidOut}
use Rattle.cnfx_reader.specs.PrintedFormula.{printed_constraint}
use Rattle.cnfx_reader.specs.declared.lay_out.TheConstants.{LINE}
use Rattle.cnfx_reader.proofs.Puts.{clause_text, parity_text, assume_text}
use Rattle.cnfx_reader.proofs.lay_out.lay_out_constraint.Goals as goal

pub returns-in-Clause : goal.returns-in-Clause
returns-in-Clause c =
    let w = c.lay_out_short in
    subst (λ (t : Bytes). IfSome w.result (λ begin. IsLaidOut t LINE c.args.end c.args.sheet.now begin w.new.sheet)) (clause_text c.in-Clause.lits.now ∙ ap (λ (r : ConstraintRef). printed_constraint (constraint_of r)) (sym c.in-Clause.is)) w.ensures

pub returns-in-Parity : goal.returns-in-Parity
returns-in-Parity c =
    let w = c.lay_out_short-in-Parity in
    subst (λ (t : Bytes). IfSome w.result (λ begin. IsLaidOut t LINE c.args.end c.args.sheet.now begin w.new.sheet)) (parity_text c.in-Parity.lits.now ∙ ap (λ (r : ConstraintRef). printed_constraint (constraint_of r)) (sym c.in-Parity.is)) w.ensures

pub returns-in-Assume : goal.returns-in-Assume
returns-in-Assume c =
    let w = c.lay_out_short-in-Assume in
    subst (λ (t : Bytes). IfSome w.result (λ begin. IsLaidOut t LINE c.args.end c.args.sheet.now begin w.new.sheet)) (assume_text c.in-Assume.lits.now ∙ ap (λ (r : ConstraintRef). printed_constraint (constraint_of r)) (sym c.in-Assume.is)) w.ensures
