use Rattle.std.proofs.Common.{◌≡◌, take, map}
use Rattle.xor_recover.specs.declared.entry.ClauseEntry.{ClauseEntry}
use Rattle.xor_recover.proofs.recovering.numbers.Given as goal

abbrev pub invariant-loop-entry : goal.invariant-loop-entry
invariant-loop-entry l = l.numbers.items ≡ map (λ (e : ClauseEntry). e.number) (take l.entry-index l.group)
