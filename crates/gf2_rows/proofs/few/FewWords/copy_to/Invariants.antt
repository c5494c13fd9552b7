use Rattle.std.proofs.Common.{◌≡◌, length, take}
use Rattle.gf2_rows.specs.Few.{laid_out}
use Rattle.gf2_rows.proofs.few.FewWords.copy_to.Given as goal

abbrev pub invariant-loop-i : goal.invariant-loop-i
invariant-loop-i l = l.into ≡ take (length l.initial.into) (laid_out l.self-inside.len l.i l.self-inside.places l.self-inside.words)
