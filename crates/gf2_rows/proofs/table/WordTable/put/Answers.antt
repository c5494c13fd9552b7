use Rattle.std.proofs.Common.{◌∙◌, sym, ap, cond, eqb, not}
use Rattle.gf2_rows.specs.Bits.{bit_of}
use Rattle.gf2_rows.specs.Tables.{words_at}
use Rattle.gf2_rows.proofs.Words.{bits_turned, not_same}
use Rattle.gf2_rows.proofs.table.WordTable.put.Goals as goal

pub returns-then-bit-value-clause-bits : goal.returns-then-bit-value-clause-bits
returns-then-bit-value-clause-bits c = λ j.
    let row = c.args.row in
    let old = words_at c.args.self.now row in
    let k = c.args.k in
    bits_turned old (words_at c.flip.new.self row) k (not (bit_of old k)) c.flip.ensures.changed.words c.requires.bit_in c.flip.ensures.bits j
    ∙ ap (λ v. cond (eqb j k) v (bit_of old j)) (ap not (sym (c.bit.ensures ∙ ap (λ l. bit_of l k) c.row.ensures)) ∙ not_same c.bit.result c.args.value c.if-bit-value.true)
