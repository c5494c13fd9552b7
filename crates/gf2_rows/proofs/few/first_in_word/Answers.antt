use Rattle.gf2_rows.proofs.Earliest.{none_in_word, one_in_word}
use Rattle.gf2_rows.proofs.few.first_in_word.Goals as goal

pub returns-then-rest-eq0 : goal.returns-then-rest-eq0
returns-then-rest-eq0 c = λ len lt. none_in_word c.args.word c.args.place c.args.from c.max-start.result c.if-place-from.false c.max-start.ensures len c.if-rest-eq0.true

pub returns : goal.returns
returns c = λ len lt.
    one_in_word c.args.word c.args.place c.args.from c.max-start.result c.if-place-from.false c.max-start.ensures len c.from.result c.ranges.word.fits c.if-rest-eq0.false c.from.ensures lt
