use Rattle.std.proofs.Common.{sym, ap, ◌∙◌, length}
use Rattle.proof_trim.proofs.StoreLaws.{length-steps}
use Rattle.proof_trim.proofs.store.StepStore.len.Goals as goal

pub returns : goal.returns
returns c = c.len.ensures.count ∙ sym (length-steps c.self.inside.integers 0 c.self.inside.ends) ∙ ap length c.self.view_is
