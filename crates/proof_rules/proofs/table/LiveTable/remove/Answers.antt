use Rattle.std.proofs.Common.{◌∙◌, ap}
use Rattle.std.specs.FinMap as map
use Rattle.proof_rules.specs.FirstLists.{behind}
use Rattle.proof_rules.proofs.TableLaws.{remove-behind}
use Rattle.proof_rules.proofs.table.LiveTable.remove.Goals as goal

pub returns : goal.returns
returns c =
    (λ i. behind (c.clear.ensures i) (c.remove.ensures i)) ∙ remove-behind c.self.inside.first c.self.inside.lists c.args.id
    ∙ ap (λ t. map.remove t c.args.id) c.self.view_is
