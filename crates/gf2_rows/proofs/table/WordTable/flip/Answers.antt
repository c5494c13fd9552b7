use Rattle.std.proofs.Common.{◌∙◌, ◌/◌, get_or, ap}
use Rattle.std.proofs.lemmas.List.{get_or-set_other}
use Rattle.gf2_rows.specs.Bits.{bits_of}
use Rattle.gf2_rows.specs.Tables.{words_at}
use Rattle.gf2_rows.proofs.Words.{flipped}
use Rattle.gf2_rows.proofs.Laying.{words_set}
use Rattle.gf2_rows.proofs.table.WordTable.flip.Goals as goal

pub returns-clause-bits : goal.returns-clause-bits
returns-clause-bits c =
    let old = c.args.self.now in
    let row = c.args.row in
    ap (λ t. bits_of (words_at t row)) c.add_word.ensures ∙ ap bits_of (words_set old row _ c.requires.row_in) ∙ flipped (words_at old row) c.args.k c.requires.bit_in

pub returns-clause-others : goal.returns-clause-others
returns-clause-others c = λ i ne.
    let old = c.args.self.now in
    let row = c.args.row in
    ap (λ t. get_or (words_at t row) i 0) c.add_word.ensures
    ∙ ap (λ ws. get_or ws i 0) (words_set old row _ c.requires.row_in)
    ∙ get_or-set_other (words_at old row) (c.args.k / 64) i _ 0 ne
