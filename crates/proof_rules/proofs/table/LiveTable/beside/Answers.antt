use Rattle.std.proofs.Common.{◌∙◌}
use Rattle.proof_rules.specs.FirstLists.{behind}
use Rattle.proof_rules.proofs.TableLaws.{none_behind}
use Rattle.proof_rules.proofs.table.LiveTable.beside.Goals as goal

pub returns : goal.returns
returns c = (λ i. behind (c.none.ensures i) (c.beside.ensures i)) ∙ none_behind
