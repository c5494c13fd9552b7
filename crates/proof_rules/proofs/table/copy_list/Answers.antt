use Rattle.std.proofs.Common.{◌∙◌}
use Rattle.proof_rules.specs.FirstLists.{behind}
use Rattle.proof_rules.proofs.TableLaws.{put_again}
use Rattle.proof_rules.proofs.table.copy_list.Goals as goal

pub returns-in_ok-insert-clause-same : goal.returns-in_ok-insert-clause-same
returns-in_ok-insert-clause-same c =
    (λ i. behind (c.clear.ensures i) (c.in_ok-insert.ensures.ok i)) ∙ put_again c.args.first.now c.args.lists.now c.args.id c.in-Some.lits.now c.in-Some.ensures
