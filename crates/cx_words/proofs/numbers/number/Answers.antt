use Rattle.cx_words.proofs.PastBounds.{too_great}
use Rattle.cx_words.proofs.numbers.number.Goals as goal

pub returns-in-Err : goal.returns-in-Err
returns-in-Err c =
    too_great c.args.text.now c.args.least c.args.most c.in-Err.field-0 c.ranges.most.fits c.in-Err.ensures.value.0 c.if-not-is_digits.ensures
