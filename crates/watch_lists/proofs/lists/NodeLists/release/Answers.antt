use Rattle.std.proofs.Common.{false, subst, sym, arith}
use Rattle.std.proofs.lemmas.List.{length-set}
use Rattle.watch_lists.specs.Lists.{ListsState, StandsNowhere}
use Rattle.watch_lists.proofs.CursorLaws.{released_flags}
use Rattle.watch_lists.proofs.lists.NodeLists.release.Goals as goal

pub invariant_of-self : goal.invariant_of-self
invariant_of-self c =
    let flags = c.self.inside.stands.items in
    let k = c.self.invariant in
    record {
      chains = k.chains;
      enough = omega (arith, k.enough, length-set flags c.args.node false);
      told = released_flags _ flags c.args.node (subst (λ (s : ListsState). StandsNowhere s.lists c.args.node) (sym c.self.view_is) c.requires.free) k.told;
    }
