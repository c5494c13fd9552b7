use Rattle.inst_gen.specs.Words.{stream}
use Rattle.inst_gen.proofs.drawing.word.Goals as goal

pub returns : goal.returns
unfolding stream
returns c = c.next_u64.ensures
