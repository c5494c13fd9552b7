use Rattle.std.proofs.Common.{subst, List}
use Rattle.std.specs.List.Sorted.{IsPermutation}
use Rattle.std.proofs.lemmas.List.Filters.{dedup_is}
use Rattle.cx_base.specs.Literals.{Literal}
use Rattle.cdcl_core.proofs.DifferentLiterals.{same_found}
use Rattle.cdcl_core.proofs.SortedLiterals.{sorted_found}
use Rattle.cdcl_core.proofs.clauses.different_sorted.Goals as goal

pub returns : goal.returns
returns c =
    let moved = subst (λ (xs : List Literal). IsPermutation xs c.sort_unstable.new.self.items) (c.in_ok-found.ensures.items_if_clones_equal (λ x y h. h)) c.sort_unstable.ensures.permutation in
    let found = sorted_found c.args.lits.now c.sort_unstable.new.self.items c.dedup.new.self.items moved c.sort_unstable.ensures.sorted (dedup_is _ _ _ c.dedup.ensures.filtered) in
    record { same = same_found c.args.lits.now c.dedup.new.self.items found; once = found.once }
