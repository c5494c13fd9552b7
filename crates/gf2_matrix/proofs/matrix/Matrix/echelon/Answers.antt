use Rattle.std.proofs.Common.{◌∙◌, ◌-◌, arith}
use Rattle.gf2_matrix.proofs.Reduce.{echelon_pivot, echelon_without}
use Rattle.gf2_matrix.proofs.matrix.Matrix.echelon.Goals as goal
use Rattle.gf2_matrix.proofs.matrix.Matrix.echelon.Goals.{in-Some, in_default}

pub loop-k-preserved : goal.loop-k-preserved
loop-k-preserved c =
    let n = c.loop-k.k in
    let r = c.rows-count.result - 1 - n in
    elim c.match-least_column.branch [
      | in-Some w ↦
          echelon_pivot c.args.self.now c.loop-k.self c.match-least_column.self n r w.in-Some.column c.loop-k.invariant
          (let h = c.loop-k.invariant.shape.rows in omega arith) w.in-Some.ensures (w.self-is ∙ w.pivot.ensures.rows)
      | in_default w ↦
          echelon_without c.args.self.now c.loop-k.self c.match-least_column.self n r c.loop-k.invariant (let h = c.loop-k.invariant.shape.rows in omega arith) w.in_default.ensures w.self-is
    ]

pub returns-clause-echelon : goal.returns-clause-echelon
returns-clause-echelon c = λ r lt. c.loop-k.invariant.echelon r lt (let h = c.loop-k.invariant.shape.rows in omega arith)
