use Rattle.cx_digits.proofs.DigitLaws.{triple_at}
use Rattle.cx_digits.proofs.digits.triple.Goals as goal

pub returns : goal.returns
returns c = triple_at c.args.number c.requires
