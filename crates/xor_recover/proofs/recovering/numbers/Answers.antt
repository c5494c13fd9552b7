use Rattle.std.proofs.Common.{sym, subst, ap, ◌∙◌, ◌++◌, ◌∷◌, [], ℕ, List, map}
use Rattle.std.specs.List.Sorted.{IsNonDecreasing, IsPermutation}
use Rattle.std.proofs.lemmas.List.{take_all}
use Rattle.std.proofs.lemmas.List.Sorted.{IsNonDecreasingBy-from_sort}
use Rattle.xor_recover.specs.declared.entry.ClauseEntry.{ClauseEntry}
use Rattle.xor_recover.proofs.Reading.{take_map_more}
use Rattle.xor_recover.proofs.recovering.numbers.Goals as goal

pub returns-clause-rising : goal.returns-clause-rising
returns-clause-rising c = subst (λ (ns : List ℕ). IsNonDecreasing ns) (sym c.from_vec.ensures) (IsNonDecreasingBy-from_sort (λ x. x) _ c.sort_unstable.ensures.sorted)

pub loop-entry-preserved : goal.loop-entry-preserved
loop-entry-preserved c =
    let group = c.args.group.now in
    c.in_ok-push.ensures.items ∙ ap (λ (ns : List ℕ). ns ++ c.entry-item.result.number ∷ []) c.loop-entry.invariant
    ∙ sym (take_map_more (λ (e : ClauseEntry). e.number) group c.loop-entry.entry-index c.entry-item.result c.loop-entry-test.true c.entry-item.is)

pub returns-clause-same : goal.returns-clause-same
returns-clause-same c =
    let group = c.args.group.now in
    let all = c.loop-entry.invariant ∙ ap (map (λ (e : ClauseEntry). e.number)) (take_all c.loop-entry.entry-index group c.loop-entry-test.false) in
    subst (λ (ns : List ℕ). IsPermutation (map (λ (e : ClauseEntry). e.number) group) ns) (sym c.from_vec.ensures)
    (subst (λ (ns : List ℕ). IsPermutation ns c.sort_unstable.new.self.items) all c.sort_unstable.ensures.permutation)
