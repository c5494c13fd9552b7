use Rattle.std.proofs.Common.{◌*◌}
use Rattle.gf2_rows.specs.Bits.{is_outside}
use Rattle.gf2_rows.specs.Few.{laid_out, FirstFrom}
use Rattle.gf2_rows.proofs.few.FewWords.first_open.Given as goal

abbrev pub invariant-loop-i : goal.invariant-loop-i
invariant-loop-i l =
    FirstFrom (is_outside (laid_out l.self-inside.len l.i l.self-inside.places l.self-inside.words) l.mask l.skip) l.from (64 * l.self-inside.len) l.best
