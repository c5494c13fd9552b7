use Rattle.std.proofs.Common.{List, ◌+◌, ◌-◌, ◌∙◌, sym, subst, arith, get_or}
use Rattle.std.proofs.lemmas.List.{with_items_is}
use Rattle.gf2_space.specs.declared.supports.Support.{Support}
use Rattle.gf2_space.specs.Supports.{AreSupports, TakeRow}
use Rattle.gf2_space.proofs.Echelons.{owner_in}
use Rattle.gf2_space.proofs.Supporting.{supports_passed, supports_more}
use Rattle.gf2_space.proofs.supports.supports_of.Goals as goal
use Rattle.gf2_space.proofs.supports.supports_of.Goals.{then-owners-x-ne0+in_ok-take_row, else-owners-x-ne0}

pub take_row-requires-clause-row_in : goal.take_row-requires-clause-row_in
take_row-requires-clause-row_in c =
    owner_in c.args.rows.now c.args.owners.now c.loop-x.x c.requires.owners
    (let long = c.requires.owners.long in let test = c.loop-x-test.true in omega arith) c.if-owners-x-ne0.true

pub loop-x-preserved : goal.loop-x-preserved
loop-x-preserved c =
    let x = c.loop-x.x in
    elim c.if-owners-x-ne0.branch [
      | then-owners-x-ne0+in_ok-take_row w ↦
          let owner = w.if-owners-x-ne0.true in
          let taken : TakeRow c.args.rows.now (get_or c.args.owners.now x 0 - 1) (x + 1) c.loop-x.supports.items w.take_row.new.supports =
          subst (λ (o : List Support). TakeRow c.args.rows.now (get_or c.args.owners.now x 0 - 1) (x + 1) o w.take_row.new.supports) w.deref_mut.ensures.value w.in_ok-take_row.ensures in
          let written = with_items_is c.loop-x.supports w.take_row.new.supports (taken.long ∙ sym c.loop-x.supports.ok.0) in
          rw w.supports-is
          (subst (λ (o : List Support). AreSupports c.args.rows.now c.args.owners.now o (x + 1)) (sym written)
          (supports_more c.args.rows.now c.args.owners.now c.loop-x.supports.items w.take_row.new.supports x (get_or c.args.owners.now x 0 - 1) c.loop-x.invariant (omega arith) taken))
      | else-owners-x-ne0 w ↦ rw w.supports-is (supports_passed c.args.rows.now c.args.owners.now c.loop-x.supports.items x c.loop-x.invariant w.if-owners-x-ne0.false)
    ]
