use Rattle.std.proofs.Common.{◌*◌}
use Rattle.cx_base.proofs.MarkLaws.{NoneBefore}
use Rattle.cx_base.proofs.assumed.Assumed.first_both.Given as goal

abbrev pub invariant-loop-place : goal.invariant-loop-place
invariant-loop-place l = NoneBefore l.self.marks.items (32 * l.place)
