use Rattle.std.proofs.Common.{get_or, ap, ◌∙◌, subst}
use Rattle.watch_lists.specs.Lists.{ListsState, IsCursor}
use Rattle.watch_lists.proofs.ChainLaws.{in_heads}
use Rattle.watch_lists.proofs.CursorLaws.{cursor_front}
use Rattle.watch_lists.proofs.lists.NodeLists.front.Goals as goal

pub returns-clause-cursor : goal.returns-clause-cursor
returns-clause-cursor c =
    let view = ap (λ (s : ListsState). s.lists) c.self.view_is in
    subst (λ xs. IsCursor xs (record { literal = c.args.literal; passed = 0; previous = 0; current = c.index-head.result.now.first; left = c.index-head.result.now.count })) view
    (cursor_front _ _ c.args.literal c.index-head.result.now (in_heads _ _ _ _ view c.requires) (c.index-head.ensures ∙ ap (λ i. get_or c.self.inside.heads.items i c.index-head.result.now) c.code.ensures.code))
