use Rattle.std.proofs.Common.{subst, List}
use Rattle.std.specs.List.Sorted.{IsPermutation}
use Rattle.std.proofs.lemmas.List.Filters.{dedup_is}
use Rattle.cx_base.specs.Literals.{Literal}
use Rattle.solve_cli.proofs.Failing.{sorted_rising, sorted_same}
use Rattle.solve_cli.proofs.failed.rising.Goals as goal

pub returns : goal.returns
returns c =
    let moved = subst (λ (xs : List Literal). IsPermutation xs c.sort_unstable.new.self.items) (c.in_ok-found.ensures.items_if_clones_equal (λ x y h. h)) c.sort_unstable.ensures.permutation in
    let is = dedup_is _ _ _ c.dedup.ensures.filtered in
    record {
      rising = sorted_rising c.sort_unstable.new.self.items c.dedup.new.self.items c.sort_unstable.ensures.sorted is;
      same = sorted_same c.args.lits.now c.sort_unstable.new.self.items c.dedup.new.self.items moved c.sort_unstable.ensures.sorted is;
    }
