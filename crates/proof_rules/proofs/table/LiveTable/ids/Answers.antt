use Rattle.std.proofs.Common.{◌∙◌, ap, nat_cmp}
use Rattle.std.specs.List.{list_any}
use Rattle.std.specs.Ordering.{eq_by_cmp}
use Rattle.cx_semantics.specs.Tables.{is_live}
use Rattle.proof_rules.proofs.TableLaws.{ids_behind}
use Rattle.proof_rules.proofs.table.LiveTable.ids.Goals as goal

pub returns : goal.returns
returns c n =
    ap (list_any (eq_by_cmp nat_cmp n)) (c.from_vec.ensures ∙ c.in_ok-push_ids.ensures)
    ∙ ids_behind c.self.inside.first c.self.inside.lists n c.in_ok-ids.ids.items (c.in_ok-ids.ensures n)
    ∙ ap (λ t. is_live t n) c.self.view_is
