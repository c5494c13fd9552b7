use Rattle.std.proofs.Common.{arith}
use Rattle.gf2_matrix.proofs.Rarest.{rarest_from_first}
use Rattle.gf2_matrix.proofs.matrix.Matrix.rarest_outside.Goals as goal

pub rarest_from-requires-clause-first : goal.rarest_from-requires-clause-first
rarest_from-requires-clause-first c = c.in-Some.ensures.1

pub returns-in-Some-clause-rarest : goal.returns-in-Some-clause-rarest
returns-in-Some-clause-rarest c =
    rarest_from_first c.args.self.now c.args.mask.now c.args.row c.in-Some.first c.rarest_from.result c.in-Some.ensures c.rarest_from.ensures.outside c.rarest_from.ensures.rarest

pub returns-in-None-clause-none : goal.returns-in-None-clause-none
returns-in-None-clause-none c = λ k k_in free. c.in-None.ensures k (omega arith) k_in free
