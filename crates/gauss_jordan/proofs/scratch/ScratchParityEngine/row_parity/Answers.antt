use Rattle.std.proofs.Common.{◌≡◌, sym, subst, Some}
use Rattle.parity_engine.specs.Written.{IsWritable}
use Rattle.parity_engine.specs.State.{State, Named, named_at}
use Rattle.parity_engine.proofs.Named.{named_row}
use Rattle.gauss_jordan.proofs.Writable.{named_writable}
use Rattle.gauss_jordan.proofs.scratch.ScratchParityEngine.row_parity.Goals as goal

pub parity-requires : goal.parity-requires
parity-requires c =
    let m = c.self.inside in
    let some = named_row c.args.self.now c.args.row c.requires in
    let writable : (n : Named) → named_at c.args.self.now c.args.row ≡ Some n → IsWritable n.form =
    subst (λ (t : State). (n : Named) → named_at t c.args.row ≡ Some n → IsWritable n.form) c.self.view_is
    (λ n is. named_writable m.matrix.columns _ c.args.row n c.self.invariant.is.right is) in
    subst IsWritable (sym (c.row_view.ensures some.0 some.1)) (writable some.0 some.1)
