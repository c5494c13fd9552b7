use Rattle.std.proofs.Common.{ℕ, ◌-◌, length, sym, subst, arith}
use Rattle.parity_engine.specs.Written.{AreRising}
use Rattle.gf2_lists.proofs.Entering.{own_firsts, enter_step}
use Rattle.gf2_lists.proofs.eliminating.enter_rows.Goals as goal

pub reduced-requires-clause-owned : goal.reduced-requires-clause-owned
reduced-requires-clause-owned c = own_firsts (length c.args.owners.now) c.loop-k.k c.loop-k.rows c.loop-k.owners c.loop-k.invariant.1

pub note-requires-clause-rises : goal.note-requires-clause-rises
note-requires-clause-rises c = subst (AreRising 1 (length c.loop-k.owners)) (sym c.deref.ensures.value) c.in_ok-new.ensures.rises

pub loop-k-preserved : goal.loop-k-preserved
loop-k-preserved c =
    let row : ℕ = length c.args.rows.now - 1 - c.loop-k.k in
    let test = c.loop-k-test.true in
    let count = c.loop-k.invariant.0.count in
    enter_step (length c.args.owners.now) c.loop-k.k row c.args.rows.now c.loop-k.rows c.loop-k.owners c.note.new.owners c.deref.result.now c.in_ok-new.new (omega arith) c.loop-k.invariant.0
    c.loop-k.invariant.1 c.in_ok-new.ensures c.deref.ensures.value c.note.ensures.none c.note.ensures.some
