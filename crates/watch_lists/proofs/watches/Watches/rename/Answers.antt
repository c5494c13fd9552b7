use Rattle.std.proofs.Common.{List, ◌∙◌, ap, length, sym, subst, refl}
use Rattle.watch_lists.specs.declared.lists.Side.{Side}
use Rattle.watch_lists.specs.Watching.{WatchState}
use Rattle.watch_lists.specs.Detaching.{HaveLists}
use Rattle.watch_lists.specs.Renaming.{AreRenamed, AreRenamedBelow}
use Rattle.watch_lists.proofs.DetachLaws.{lists_of_rest}
use Rattle.watch_lists.proofs.RenamedLaws.{are_renamed, lists_renamed}
use Rattle.watch_lists.proofs.watches.Watches.rename.Goals.{After-move_all}
use Rattle.watch_lists.proofs.watches.Watches.rename.Goals as goal

renamed : (c : After-move_all) → AreRenamedBelow c.args.moved.now (length c.self.inside.nodes.attached.items) c.self.inside.lists.held c.self.inside.nodes.attached.items c.move_all.new.lists.held c.move_all.new.nodes.attached.items
renamed c =
    let b = c.self.inside.nodes.attached.items in
    subst (λ (h : List Side). AreRenamedBelow c.args.moved.now (length b) h b c.move_all.new.lists.held c.move_all.new.nodes.attached.items) c.clear.ensures.held c.move_all.ensures.renamed

pub link_all-requires-clause-codes : goal.link_all-requires-clause-codes
link_all-requires-clause-codes c =
    let old = c.self.inside.nodes in
    let new = c.move_all.new.nodes in
    let lists = c.self.inside.lists in
    let held = c.move_all.new.lists.held in
    subst (HaveLists held new.attached.items) (sym (ap length c.move_all.ensures.lists ∙ c.clear.ensures.count))
    (lists_renamed c.args.moved.now lists.held old.attached.items held new.attached.items (length lists.lists) (renamed (goal.at.link_all-requires-clause-codes c).After-move_all)
    (lists_of_rest lists.held old.attached.items lists.lists c.self.invariant.listed))

pub returns : goal.returns
returns c =
    let w : WatchState = record { variables = c.self.inside.vars; looked = c.self.inside.looked.items; held = c.self.inside.lists.held; attached = c.self.inside.nodes.attached.items } in
    let v : WatchState = record { variables = c.self.inside.vars; looked = c.self.inside.looked.items; held = c.link_all.new.lists.held; attached = c.move_all.new.nodes.attached.items } in
    let b = c.self.inside.nodes.attached.items in
    let r = subst (λ (h : List Side). AreRenamedBelow c.args.moved.now (length b) c.self.inside.lists.held b h c.move_all.new.nodes.attached.items) (sym c.link_all.ensures.held) (renamed (goal.at.returns c).After-move_all) in
    subst (λ x. AreRenamed c.args.moved.now x v) c.self.view_is (are_renamed c.args.moved.now w v refl refl r)
