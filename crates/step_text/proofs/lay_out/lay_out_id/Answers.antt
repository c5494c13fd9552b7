use Rattle.std.proofs.Common.{arith}
use Rattle.std.proofs.lemmas.Fmt.{length-decimal-le}
use Rattle.step_text.proofs.lay_out.lay_out_id.Goals as goal

pub returns-clause-low : goal.returns-clause-low
returns-clause-low c = omega (arith, length-decimal-le 20 c.args.name (omega arith) (omega arith) (omega arith))
