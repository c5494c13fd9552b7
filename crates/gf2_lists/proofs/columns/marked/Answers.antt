use Rattle.std.proofs.Common.{List, ℕ, ◌+◌, sym, subst}
use Rattle.gf2_lists.specs.Occurring.{AreMarked}
use Rattle.gf2_lists.proofs.Marking.{marked_passed, marked_more}
use Rattle.gf2_lists.proofs.columns.marked.Goals as goal
use Rattle.gf2_lists.proofs.columns.marked.Goals.{then-marks-x+in_ok-push, else-marks-x}

pub loop-x-preserved : goal.loop-x-preserved
loop-x-preserved c =
    let x = c.loop-x.x in
    elim c.if-marks-x.branch [
      | then-marks-x+in_ok-push w ↦
          rw w.columns-is
          (subst (λ (f : List ℕ). AreMarked c.args.marks.now f (x + 1)) (sym w.in_ok-push.ensures.items) (marked_more c.args.marks.now c.loop-x.columns.items x c.loop-x.invariant))
      | else-marks-x w ↦ rw w.columns-is (marked_passed c.args.marks.now c.loop-x.columns.items x c.loop-x.invariant w.if-marks-x.false)
    ]
