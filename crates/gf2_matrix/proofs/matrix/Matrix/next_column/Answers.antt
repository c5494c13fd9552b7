use Rattle.std.proofs.Common.{◌≡◌, ◌∙◌, ℕ, false, ap}
use Rattle.gf2_rows.specs.Bits.{bit_of}
use Rattle.gf2_matrix.proofs.matrix.Matrix.next_column.Goals as goal
use Rattle.gf2_matrix.proofs.matrix.Matrix.next_column.Goals.{After-next_outside}

mask_clear : (c : After-next_outside) → (k : ℕ) → bit_of c.deref.result.now k ≡ false
mask_clear c k = ap (λ w. bit_of w k) c.deref.ensures.value ∙ c.self.invariant.matrix.none k

pub returns-in-Some : goal.returns-in-Some
returns-in-Some c =
    let s = (goal.at.returns-in-Some c).After-next_outside in
    let e = c.in-Some.ensures in (e.0, e.1.0, e.1.2, λ j ge lt. e.2 j ge lt (mask_clear s j))

pub returns-in-None : goal.returns-in-None
returns-in-None c =
    let s = (goal.at.returns-in-None c).After-next_outside in
    λ k ge lt. c.in-None.ensures k ge lt (mask_clear s k)
