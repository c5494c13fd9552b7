use Rattle.std.proofs.Common.{ℕ, ◌-◌, sym, subst, arith}
use Rattle.gf2_matrix.specs.Content.{IsLeastOf}
use Rattle.gf2_space.proofs.Filling.{owners_all, owners_without, owners_more}
use Rattle.gf2_space.proofs.making.owners_of.Goals as goal
use Rattle.gf2_space.proofs.making.owners_of.Goals.{in-Some, in_default}

pub loop-r-preserved : goal.loop-r-preserved
loop-r-preserved c =
    let m = c.args.rows.now in
    let n = c.loop-r.r in
    let test = c.loop-r-test.true in
    let count = c.rows-r-end.ensures in
    elim c.match-least.branch [
      | in-Some w ↦
          let low = w.in-Some.ensures.0 in
          let high = w.in-Some.ensures.1 in
          let number = w.number.ensures.number in
          let at : ℕ = w.number.result - 1 in
          rw w.owners-is
          (owners_more m c.loop-r.owners.items n at c.loop-r.invariant (omega arith) c.requires.echelon (omega arith)
          (subst (λ v. IsLeastOf m n (v - 1)) (sym w.number.ensures.number) w.in-Some.ensures.2))
      | in_default w ↦ rw w.owners-is (owners_without m c.loop-r.owners.items n c.loop-r.invariant w.in_default.ensures)
    ]

pub returns : goal.returns
returns c =
    owners_all c.args.rows.now c.loop-r.owners.items c.loop-r.r
    (let far = c.loop-r-test.false in let end' = c.loop-r.auto.r-end in let n = c.rows-r-end.ensures in omega arith) c.loop-r.invariant
