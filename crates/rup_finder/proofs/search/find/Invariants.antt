use Rattle.std.proofs.Common.{◌≡◌, ℕ, List, Some, ◌⊎◌, length}
use Rattle.cx_base.specs.Literals.{Literal}
use Rattle.cx_semantics.specs.Tables.{get}
use Rattle.rup_finder.specs.Saturation.{HasCome, HasId, IsUsed}
use Rattle.rup_finder.proofs.search.find.Given as goal

abbrev pub invariant-loop-later : goal.invariant-loop-later
invariant-loop-later l = record {
  come : HasCome l.live.clauses l.target l.reached;
  seen : (n : ℕ) (clause : List Literal) → get l.live.clauses n ≡ Some clause → IsUsed l.reached.assumed clause ⊎ HasId l.waiting.items n;
}

abbrev pub decreases-loop-later : goal.decreases-loop-later
decreases-loop-later l = length l.waiting.items
