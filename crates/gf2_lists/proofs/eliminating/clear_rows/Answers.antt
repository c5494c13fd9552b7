use Rattle.std.proofs.Common.{◌≡◌, ℕ, ◌+◌, ◌-◌, length, get_or, subst, arith}
use Rattle.gf2_lists.proofs.Entering.{own_firsts}
use Rattle.gf2_lists.proofs.Clearing.{Clearing, clearing_passed, clearing_more, cleared_all}
use Rattle.gf2_lists.proofs.eliminating.clear_rows.Goals as goal
use Rattle.gf2_lists.proofs.eliminating.clear_rows.Goals.{then-owner-ne0+in_ok-new, else-owner-ne0}

pub reduced-requires-clause-row_in : goal.reduced-requires-clause-row_in
reduced-requires-clause-row_in c =
    let n : ℕ = length c.args.owners.now in
    let test = c.loop-k-test.true in
    let some = c.if-owner-ne0.true in
    (c.loop-k.invariant.owners_are.owned (n - 1 - c.loop-k.k) (get_or c.args.owners.now (n - 1 - c.loop-k.k) 0 - 1) (omega arith) (omega arith)).1

pub reduced-requires-clause-owned : goal.reduced-requires-clause-owned
reduced-requires-clause-owned c = own_firsts (length c.args.owners.now) (length c.loop-k.rows) c.loop-k.rows c.args.owners.now c.loop-k.invariant.owners_are

pub bounds-rows-owner : goal.bounds-rows-owner
bounds-rows-owner c =
    let n : ℕ = length c.args.owners.now in
    let test = c.loop-k-test.true in
    let some = c.if-owner-ne0.true in
    (c.loop-k.invariant.owners_are.owned (n - 1 - c.loop-k.k) (get_or c.args.owners.now (n - 1 - c.loop-k.k) 0 - 1) (omega arith) (omega arith)).1

pub loop-k-preserved : goal.loop-k-preserved
loop-k-preserved c =
    let n : ℕ = length c.args.owners.now in
    let test = c.loop-k-test.true in
    let x : ℕ = n - 1 - c.loop-k.k in
    elim c.if-owner-ne0.branch [
      | then-owner-ne0+in_ok-new w ↦
          let some = w.if-owner-ne0.true in
          rw w.rows-is
          (clearing_more n c.args.rows.now c.loop-k.rows c.args.owners.now c.loop-k.k x (get_or c.args.owners.now x 0 - 1) w.in_ok-new.new (omega arith) c.loop-k.invariant (omega arith) w.in_ok-new.ensures)
      | else-owner-ne0 w ↦ rw w.rows-is (clearing_passed n c.args.rows.now c.loop-k.rows c.args.owners.now c.loop-k.k x (omega arith) c.loop-k.invariant w.if-owner-ne0.false)
    ]

pub returns : goal.returns
returns c = λ _.
    let past = c.loop-k-test.false in
    let end = c.loop-k.auto.k-end in
    cleared_all (length c.args.owners.now) c.args.rows.now c.loop-k.rows c.args.owners.now
    (subst (Clearing (length c.args.owners.now) c.args.rows.now c.loop-k.rows c.args.owners.now) (let all : c.loop-k.k ≡ length c.args.owners.now = omega arith in all) c.loop-k.invariant)
