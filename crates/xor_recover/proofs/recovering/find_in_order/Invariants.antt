use Rattle.std.proofs.Common.{map}
use Rattle.xor_recover.specs.Entries.{row_of}
use Rattle.xor_recover.proofs.Runs.{RunProgress}
use Rattle.xor_recover.proofs.recovering.find_in_order.Given as goal

abbrev pub invariant-loop-start : goal.invariant-loop-start
invariant-loop-start l = RunProgress (map row_of l.room.entries.items) l.start l.fn.finds.items l.finds.items
