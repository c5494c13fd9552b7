use Rattle.std.proofs.Common.{◌∙◌, sym}
use Rattle.gauss_jordan.proofs.Copies.{source_taken, source_passed}
use Rattle.gauss_jordan.proofs.slot.source_list.Goals as goal
use Rattle.gauss_jordan.proofs.slot.source_list.Goals.{then-bit+in_ok-push, else-bit}

pub loop-k-preserved : goal.loop-k-preserved
loop-k-preserved c =
    elim c.if-bit.branch [
      | then-bit+in_ok-push w ↦
          rw w.numbers-is
          (w.in_ok-push.ensures.items ∙ source_taken c.args.words.now c.loop-k.k c.loop-k.numbers.items c.loop-k.invariant (sym c.bit.ensures ∙ w.if-bit.true))
      | else-bit w ↦ rw w.numbers-is (source_passed c.args.words.now c.loop-k.k c.loop-k.numbers.items c.loop-k.invariant (sym c.bit.ensures ∙ w.if-bit.false))
    ]
