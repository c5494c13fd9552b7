use Rattle.std.proofs.Common.{◌≡◌, drop}
use Rattle.gauss_incremental.specs.ShortFirst.{kind_after, kind_under}
use Rattle.gauss_incremental.proofs.shorts.kind_of.Given as goal

abbrev pub invariant-loop-lit : goal.invariant-loop-lit
invariant-loop-lit l = kind_after l.engine.state.values l.sum l.free (drop l.lit-index l.lits) ≡ kind_under l.engine.state.values l.lits
