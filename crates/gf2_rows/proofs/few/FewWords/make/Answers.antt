use Rattle.std.proofs.Common.{replicate}
use Rattle.gf2_rows.specs.declared.few.TheConstants.{FEW}
use Rattle.gf2_rows.proofs.Entries.{laid_out-zero}
use Rattle.gf2_rows.proofs.few.FewWords.make.Goals as goal

pub returns : goal.returns
returns c = laid_out-zero c.args.len (replicate FEW 0) (replicate FEW 0)
