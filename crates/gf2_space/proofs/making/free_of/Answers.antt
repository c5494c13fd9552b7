use Rattle.std.proofs.Common.{List, ℕ, ◌+◌, sym, subst}
use Rattle.gf2_space.specs.Kept.{AreUnowned}
use Rattle.gf2_space.proofs.Filling.{unowned_passed, unowned_more}
use Rattle.gf2_space.proofs.making.free_of.Goals as goal
use Rattle.gf2_space.proofs.making.free_of.Goals.{then-owners-x-eq0+in_ok-push, else-owners-x-eq0}

pub loop-x-preserved : goal.loop-x-preserved
loop-x-preserved c =
    let x = c.loop-x.x in
    elim c.if-owners-x-eq0.branch [
      | then-owners-x-eq0+in_ok-push w ↦
          rw w.free-is
          (subst (λ (f : List ℕ). AreUnowned c.args.owners.now f (x + 1)) (sym w.in_ok-push.ensures.items)
          (unowned_more c.args.owners.now c.loop-x.free.items x c.loop-x.invariant w.if-owners-x-eq0.true))
      | else-owners-x-eq0 w ↦ rw w.free-is (unowned_passed c.args.owners.now c.loop-x.free.items x c.loop-x.invariant w.if-owners-x-eq0.false)
    ]
