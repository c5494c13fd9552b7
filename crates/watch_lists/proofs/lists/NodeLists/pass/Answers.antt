use Rattle.std.proofs.Common.{ℕ, ◌+◌, ◌-◌, List, ap, subst, arith}
use Rattle.watch_lists.specs.Lists.{ListsState, IsCursor}
use Rattle.watch_lists.specs.declared.lists.Cursor.{Cursor}
use Rattle.watch_lists.proofs.SideLaws.{links_count, link_read}
use Rattle.watch_lists.proofs.CursorLaws.{can_pass, current_below, cursor_past, list_short}
use Rattle.watch_lists.proofs.lists.NodeLists.pass.Goals as goal

pub overflow_add-result : goal.overflow_add-result
overflow_add-result c =
    let may = can_pass _ _ _ _ c.self.invariant.chains (ap (λ (s : ListsState). s.lists) c.self.view_is) c.requires.cursor c.requires.some in
    omega (arith, list_short _ _ _ may, c.self.invariant.chains.few)

pub index-requires : goal.index-requires
index-requires c =
    let may = can_pass _ _ _ _ c.self.invariant.chains (ap (λ (s : ListsState). s.lists) c.self.view_is) c.requires.cursor c.requires.some in
    omega (arith, current_below _ _ _ may, links_count c.self.inside.nodes.items, c.self.inside.nodes.ok.0)

pub returns-clause-cursor : goal.returns-clause-cursor
returns-clause-cursor c =
    let nodes = c.self.inside.nodes.items in
    let view = ap (λ (s : ListsState). s.lists) c.self.view_is in
    let may = can_pass _ _ _ _ c.self.invariant.chains view c.requires.cursor c.requires.some in
    let read = link_read nodes c.args.cursor.current c.index.result.now (omega (arith, current_below _ _ _ may, links_count nodes)) c.index.ensures in
    let it : Cursor = record { literal = c.args.cursor.literal; passed = c.args.cursor.passed + 1; previous = c.args.cursor.current; current = c.index.result.now.next; left = c.args.cursor.left - 1 } in
    subst (λ (xs : List (List ℕ)). IsCursor xs it) view (cursor_past _ _ c.args.cursor c.index.result.now.next may read)
