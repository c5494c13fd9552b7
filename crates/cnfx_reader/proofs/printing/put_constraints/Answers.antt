use Rattle.std.proofs.Common.{◌≡◌, ◌∙◌, ap, ℕ, List, length, take, flat_map, arith}
use Rattle.std.proofs.Math.Seq.{take-length}
use Rattle.cx_base.specs.declared.constraint.Constraint.{Constraint}
use Rattle.cx_desk.specs.Calls.{gained}
use Rattle.cnfx_reader.specs.PrintedFormula.{printed_constraint}
use Rattle.cnfx_reader.proofs.printing.put_constraints.Goals as goal

pub returns : goal.returns
returns g c =
    let cs = c.args.formula.now.constraints in
    let old = g.D.Desk.outside c.args.desk.now in
    let all : c.loop-done.done ≡ length cs = omega (arith, c.loop-done.invariant.within, c.loop-done-test.false, c.len.ensures.len) in
    c.loop-done.invariant.put
    ∙ ap (λ (n : ℕ). gained c.args.port (flat_map printed_constraint (take n cs)) old) all
    ∙ ap (λ (xs : List Constraint). gained c.args.port (flat_map printed_constraint xs) old) (take-length cs)
