use Rattle.std.proofs.Common.{◌≡◌, take}
use Rattle.cx_semantics.specs.Marked.{without}
use Rattle.plain_tests.proofs.told.without.Given as goal

abbrev pub invariant-loop-other : goal.invariant-loop-other
invariant-loop-other l = l.others.items ≡ without (take l.other-index l.ids) l.id
