use Rattle.std.proofs.Common.{refl, arith}
use Rattle.cx_base.proofs.MarkLaws.{no_pair, first_pair}
use Rattle.cx_base.proofs.assumed.first_pair.Goals as goal

pub returns-then-pairs-eq0 : goal.returns-then-pairs-eq0
returns-then-pairs-eq0 c = no_pair c.args.word c.if-pairs-eq0.true

pub returns : goal.returns
returns c = first_pair c.args.word _ refl (let t = c.if-pairs-eq0.false in omega arith) c.ranges.word.fits
