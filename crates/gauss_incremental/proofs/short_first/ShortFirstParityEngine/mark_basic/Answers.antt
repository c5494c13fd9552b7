use Rattle.std.proofs.Common.{◌∙◌, ap, sym}
use Rattle.parity_engine.specs.State.{State}
use Rattle.gauss_incremental.proofs.short_first.ShortFirstParityEngine.mark_basic.Goals as goal

pub mark_basic-requires : goal.mark_basic-requires
mark_basic-requires c = c.requires ∙ ap (λ (s : State). s.vars) (sym c.self.view_is)
