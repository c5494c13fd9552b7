use Rattle.std.proofs.Common.{◌∙◌}
use Rattle.proof_rules.specs.FirstLists.{lists_of}
use Rattle.proof_rules.specs.FirstLists.{behind}
use Rattle.proof_rules.proofs.TableLaws.{first_behind}
use Rattle.proof_rules.proofs.table.LiveTable.of.Goals as goal

pub returns : goal.returns
returns c = (λ i. behind (c.in_ok-all.ensures i) (c.beside.ensures i)) ∙ first_behind (lists_of c.args.lists)
