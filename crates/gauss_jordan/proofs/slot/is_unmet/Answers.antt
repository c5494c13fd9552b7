use Rattle.std.proofs.Common.{◌≡◌, ◌∙◌, ◌&&◌, Bool, None, sym, ap, get_or}
use Rattle.cx_base.specs.Literals.{differ}
use Rattle.gf2_rows.specs.Bits.{bit_of}
use Rattle.gf2_rows.proofs.Words.{differ-beq}
use Rattle.gauss_jordan.specs.Slots.{value_or_false}
use Rattle.gauss_jordan.proofs.Copies.{sum_more}
use Rattle.gauss_jordan.proofs.slot.is_unmet.Goals as goal
use Rattle.gauss_jordan.proofs.slot.is_unmet.Goals.{then-bit, else-bit}

pub loop-at-preserved : goal.loop-at-preserved
loop-at-preserved c =
    let slot = c.args.slot.now in
    let held = c.args.held.now in
    let value : Bool = value_or_false (get_or held c.loop-at.at None) in
    let bit : c.bit.result ≡ bit_of slot.terms.items c.loop-at.at = c.bit.ensures ∙ ap (λ ws. bit_of ws c.loop-at.at) c.deref.ensures.value in
    let product : c.if-bit.sum ≡ (bit_of slot.terms.items c.loop-at.at && value) =
    elim c.if-bit.branch [
      | then-bit w ↦ w.sum-is ∙ w.is_true.ensures ∙ ap (λ b. b && value) (sym w.if-bit.true ∙ bit)
      | else-bit w ↦ w.sum-is ∙ w.if-bit.false ∙ ap (λ b. b && value) (sym w.if-bit.false ∙ bit)
    ] in
    sum_more slot held c.loop-at.at c.loop-at.sum c.loop-at.invariant ∙ ap (differ c.loop-at.sum) (sym product) ∙ sym (differ-beq c.loop-at.sum c.if-bit.sum)
