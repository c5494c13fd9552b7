use Rattle.std.proofs.Common.{subst, ℕ, List}
use Rattle.std.specs.List.Sorted.{IsPermutation}
use Rattle.std.proofs.lemmas.List.Sorted.{IsNonDecreasingBy-from_sort}
use Rattle.xor_blast.proofs.RisingLaws.{rising_of_sorted}
use Rattle.xor_blast.proofs.normal.fill_rising.Goals as goal

pub cancel_pairs-requires : goal.cancel_pairs-requires
cancel_pairs-requires c = IsNonDecreasingBy-from_sort (λ x. x) _ c.sort_unstable.ensures.sorted

pub returns : goal.returns
returns c =
    let sorted = c.sort_unstable.new.self.items in
    let moved = subst (λ (xs : List ℕ). IsPermutation xs sorted) c.in_ok-fill_numbers.ensures c.sort_unstable.ensures.permutation in
    λ n within. rising_of_sorted c.args.lits.now sorted c.cancel_pairs.new.numbers.items n moved c.cancel_pairs.ensures within
