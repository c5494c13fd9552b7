use Rattle.std.proofs.Common.{◌<◌, true, false, length, ap, arith}
use Rattle.std.proofs.lemmas.List.{length-set, get_or-set_same}
use Rattle.watch_lists.specs.Lists.{ListsState}
use Rattle.watch_lists.proofs.SideLaws.{links_count, held_count}
use Rattle.watch_lists.proofs.FlagLaws.{flagged_more}
use Rattle.watch_lists.proofs.lists.NodeLists.flag.Goals as goal

pub invariant_of-self : goal.invariant_of-self
invariant_of-self c =
    let flags = c.self.inside.stands.items in
    let nodes = c.self.inside.nodes.items in
    let k = c.self.invariant in
    let inside : c.args.node < length flags = omega (arith, ap (λ (s : ListsState). length s.held) c.self.view_is, held_count nodes, links_count nodes, c.requires, k.enough) in
    record {
      chains = k.chains;
      enough = omega (arith, k.enough, length-set flags c.args.node true);
      told = flagged_more c.args.node _ flags inside k.told;
    }

pub returns-clause-flagged : goal.returns-clause-flagged
returns-clause-flagged c =
    let flags = c.self.inside.stands.items in
    let nodes = c.self.inside.nodes.items in
    get_or-set_same flags c.args.node true false (omega (arith, ap (λ (s : ListsState). length s.held) c.self.view_is, held_count nodes, links_count nodes, c.requires, c.self.invariant.enough))
