use Rattle.std.proofs.Common.{sym, ap, ◌∙◌}
use Rattle.std.specs.List.{list_any}
use Rattle.proof_trim.specs.Puts.{is_deletion}
use Rattle.proof_trim.proofs.store.StepStore.deletes.Goals as goal

pub returns : goal.returns
returns c = λ no. ap (list_any is_deletion) (sym c.self.view_is) ∙ c.self.invariant.1 no
