use Rattle.gf2_lists.specs.Made.{AreRowsOf}
use Rattle.gf2_lists.proofs.making.rows_of.Given as goal

abbrev pub invariant-loop-parity : goal.invariant-loop-parity
invariant-loop-parity l = AreRowsOf l.parities l.rows.items l.parity-index
