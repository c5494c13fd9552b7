use Rattle.std.proofs.Common.{◌≡◌, ◌<◌, ◌∙◌, false, List, Option, None, Some, length, get_or, set, sym, subst, ap}
use Rattle.std.specs.Option.{is_some}
use Rattle.std.proofs.lemmas.List.{with_items_is}
use Rattle.gf2_matrix.proofs.Updates.{same_read}
use Rattle.parity_engine.specs.declared.state.Naming.{Naming}
use Rattle.gauss_incremental.specs.Namings.{AreNamedBy}
use Rattle.gauss_incremental.proofs.Stacks.{known_none, known_some, names_more, names_room, names_same}
use Rattle.gauss_incremental.proofs.names.RowNames.name.Goals as goal
use Rattle.gauss_incremental.proofs.names.RowNames.name.Goals.{After-index_mut}

row_in : (c : After-index_mut) → c.args.row < length c.self.inside.named.items
row_in c = subst (λ (ns : List (Option Naming)). c.args.row < length ns) (sym c.self.view_is) c.requires.row_in

read : (c : After-index_mut) → get_or c.self.inside.named.items c.args.row None ≡ c.index.result.now
read c = same_read c.self.inside.named.items c.args.row None c.index.result.now (row_in c) ∙ sym c.index.ensures

none : (c : After-index_mut) → c.is_some-known.result ≡ false → get_or c.self.inside.named.items c.args.row None ≡ None
none c off = known_none (get_or c.self.inside.named.items c.args.row None) (ap is_some (read c) ∙ sym c.is_some-known.ensures ∙ off)

pub invariant_of-self : goal.invariant_of-self
invariant_of-self c =
    let m = c.self.inside in
    let t = (goal.at.invariant_of-self c).After-index_mut in
    let known = known_some (get_or m.named.items c.args.row None) (ap is_some (read t) ∙ sym c.is_some-known.ensures ∙ c.if-known.true) in
    names_same m.order.items m.count m.named.items c.args.row known.0 c.args.naming c.self.invariant known.1
    (sym (c.requires.level known.0 (subst (λ (ns : List (Option Naming)). get_or ns c.args.row None ≡ Some known.0) c.self.view_is known.1)))

pub push-count-requires : goal.push-count-requires
push-count-requires c =
    let m = c.self.inside in
    let t = (goal.at.push-count-requires c).After-index_mut in
    rw c.deref_mut.ensures.value (names_room m.order.items m.count m.named.items c.args.row c.self.invariant (row_in t) (none t c.if-known.false))

pub invariant_of-self-2 : goal.invariant_of-self-2
invariant_of-self-2 c =
    let m = c.self.inside in
    let t = (goal.at.invariant_of-self-2 c).After-index_mut in
    let order_is = c.push-count.ensures.trail ∙ ap (λ ts. set ts m.count c.args.row) c.deref_mut.ensures.value in
    rw (with_items_is m.order c.push-count.new.trail (c.push-count.auto.trail ∙ ap length c.deref_mut.ensures.value ∙ sym m.order.ok.0), order_is, c.push-count.ensures.count)
    (names_more m.order.items m.count m.named.items c.args.row c.args.naming c.self.invariant (row_in t) (none t c.if-known.false)
    (subst (AreNamedBy c.args.naming.level) (sym c.self.view_is) c.requires.last))
