use Rattle.std.proofs.Common.{◌≡◌, false, take}
use Rattle.cx_semantics.specs.Marked.{is_among}
use Rattle.plain_tests.proofs.covering.is_among.Given as goal

abbrev pub invariant-loop-other : goal.invariant-loop-other
invariant-loop-other l = is_among (take l.other-index l.ids) l.id ≡ false
