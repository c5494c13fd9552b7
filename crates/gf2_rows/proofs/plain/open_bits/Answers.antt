use Rattle.std.proofs.Common.{◌∙◌, not, w64}
use Rattle.std.specs.Prelude.{bit_and}
use Rattle.std.specs.Int.{bit_not}
use Rattle.gf2_rows.specs.Bits.{word_bit}
use Rattle.gf2_rows.proofs.Words.{word_bit-rest, word_bit-cleared, not_skipped, and_more}
use Rattle.gf2_rows.proofs.plain.open_bits.Goals as goal

pub returns-in-Some : goal.returns-in-Some
returns-in-Some c = λ j lt.
    rw c.in-Some.is
    (word_bit-cleared (bit_and c.args.word (bit_not w64 c.args.masked)) c.args.masked c.in-Some.place c.args.index j c.args.word c.if-place-index.true lt
    (word_bit-rest c.args.word c.args.masked j c.ranges.masked.fits lt))

pub returns-in_default : goal.returns-in_default
returns-in_default c = λ j lt.
    rw (c.in-Some.is, not_skipped c.in-Some.place c.args.index j c.if-place-index.false lt)
    (word_bit-rest c.args.word c.args.masked j c.ranges.masked.fits lt ∙ and_more (word_bit c.args.word j) (not (word_bit c.args.masked j)))

pub returns-in_default-2 : goal.returns-in_default-2
returns-in_default-2 c = λ j lt.
    rw c.in_default.is
    (word_bit-rest c.args.word c.args.masked j c.ranges.masked.fits lt ∙ and_more (word_bit c.args.word j) (not (word_bit c.args.masked j)))
