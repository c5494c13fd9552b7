use Rattle.std.proofs.Common.{◌∙◌, sym, ap, cond, eqb, not}
use Rattle.gf2_rows.specs.Bits.{bit_of}
use Rattle.gf2_rows.proofs.Words.{bits_turned, not_same}
use Rattle.gf2_rows.proofs.position.put.Goals as goal

pub returns-then-bit-value : goal.returns-then-bit-value
returns-then-bit-value c = λ j.
    bits_turned c.args.row.now c.flip.new.row c.args.k (not (bit_of c.args.row.now c.args.k)) c.flip.auto.row c.requires c.flip.ensures j
    ∙ ap (λ v. cond (eqb j c.args.k) v (bit_of c.args.row.now j)) (ap not (sym c.bit.ensures) ∙ not_same c.bit.result c.args.value c.if-bit-value.true)
