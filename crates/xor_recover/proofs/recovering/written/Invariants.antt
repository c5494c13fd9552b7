use Rattle.std.proofs.Common.{◌≡◌, take}
use Rattle.parity_engine.specs.Written.{literals_with}
use Rattle.xor_recover.proofs.recovering.written.Given as goal

abbrev pub invariant-loop-place : goal.invariant-loop-place
invariant-loop-place l = l.lits.items ≡ literals_with l.key.right (take l.place l.key.vars.items)
