use Rattle.std.proofs.Common.{ap, ◌∙◌, length, arith}
use Rattle.watch_lists.specs.Lists.{ListsState}
use Rattle.watch_lists.specs.Watching.{side_at}
use Rattle.watch_lists.proofs.SideLaws.{held_count, held_read}
use Rattle.watch_lists.proofs.lists.NodeLists.side.Goals as goal

pub returns : goal.returns
returns c =
    let nodes = c.self.inside.nodes.items in
    let view = ap (λ (s : ListsState). s.held) c.self.view_is in
    held_read nodes c.args.node c.index.result.now (omega (arith, ap length view, held_count nodes, c.requires)) c.index.ensures ∙ ap (λ (s : ListsState). side_at s.held c.args.node) c.self.view_is
