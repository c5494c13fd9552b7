use Rattle.std.proofs.Common.{◌≡◌, ◌≤◌, ◌∙◌, ap, sym, ◌-◌, ◌+◌, ◌++◌, [], arith, length, drop, take, flat_map}
use Rattle.std.proofs.Math.ListN.{drop_of_length-le}
use Rattle.cx_base.specs.Borrowed.{constraint_at}
use Rattle.cx_base.specs.declared.constraint.Constraint.TheVariants.{Clause}
use Rattle.cnfx_reader.specs.PrintedFormula.{printed_constraint}
use Rattle.cnfx_reader.specs.Groups.{lines_between}
use Rattle.cnfx_reader.proofs.Groups.{group_more}
use Rattle.cnfx_reader.proofs.lay_out.lay_out_group.Goals as goal

pub loop-left-init : goal.loop-left-init
loop-left-init c =
    let to = c.args.to in
    let cs = c.args.formula.now.constraints in
    let whole : length c.args.sheet.now ≤ length c.args.sheet.now = omega arith in
    let none : 0 ≡ to - to = omega arith in
    record {
      order = omega arith;
      high = omega arith;
      room = omega arith;
      within = omega arith;
      laid = drop_of_length-le c.args.sheet.now whole ∙ ap (λ n. flat_map printed_constraint (take n (drop to cs))) none;
    }

pub loop-left-preserved : goal.loop-left-preserved
loop-left-preserved c =
    let to = c.args.to in
    let cs = c.args.formula.now.constraints in
    let left = c.loop-left.left in
    let line = c.in-Some.ensures in
    let next : left - 1 + 1 ≡ left = omega (arith, c.loop-left-test.true) in
    record {
      order = omega (arith, c.loop-left-test.true);
      high = omega (arith, c.loop-left.invariant.high);
      room = omega (arith, c.loop-left-test.true, c.loop-left.invariant.room, line.low);
      within = omega (arith, line.high, c.loop-left.invariant.within, c.lay_out_constraint.auto.sheet);
      laid =
          line.laid
          ∙ (λ i. printed_constraint (c.item.ensures.item i) ++ c.loop-left.invariant.laid i)
          ∙ ap (λ k. printed_constraint (constraint_at cs (left - 1)) ++ lines_between cs k to) (sym next)
          ∙ sym (group_more printed_constraint cs (left - 1) (Clause []) (omega (arith, c.loop-left-test.true, c.loop-left.invariant.high, c.requires.high)) to (omega (arith, c.loop-left-test.true, c.loop-left.invariant.high)));
    }
