use Rattle.std.proofs.Common.{subst, ℕ, List}
use Rattle.std.specs.List.Sorted.{IsPermutation}
use Rattle.std.proofs.lemmas.List.Filters.{dedup_is}
use Rattle.proof_rules.proofs.ContentLaws.{content_of_sorted}
use Rattle.proof_rules.proofs.content.fill_clause_content.Goals as goal

pub returns : goal.returns
returns c =
    let moved = subst (λ (xs : List ℕ). IsPermutation xs c.sort_unstable.new.self.items) c.in_ok-fill_codes.ensures c.sort_unstable.ensures.permutation in
    content_of_sorted c.args.lits.now c.sort_unstable.new.self.items c.dedup.new.self.items moved c.sort_unstable.ensures.sorted (dedup_is _ _ _ c.dedup.ensures.filtered)
