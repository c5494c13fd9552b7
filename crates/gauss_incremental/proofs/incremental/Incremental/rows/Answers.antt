use Rattle.std.proofs.Common.{◌∙◌, length, sym, ap}
use Rattle.gauss_incremental.specs.Engine.{Stand}
use Rattle.gauss_incremental.proofs.Middle.{length-names}
use Rattle.gauss_incremental.proofs.incremental.Incremental.rows.Goals as goal

pub returns-clause-count : goal.returns-clause-count
returns-clause-count c =
    let m = c.self.inside in
    let right = c.self.invariant.parts.right in
    c.rows.ensures.count ∙ sym right.named_long ∙ sym (length-names m.named m.matrix.rows right.named_long) ∙ ap (λ (s : Stand). length s.state.named) c.self.view_is
