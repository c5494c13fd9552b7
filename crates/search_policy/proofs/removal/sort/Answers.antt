use Rattle.std.proofs.Common.{◌+◌, ◌∙◌, get_or, rules}
use Rattle.std.proofs.lemmas.List.Sorted.{answers_always}
use Rattle.search_policy.specs.declared.removal.Card.{Card}
use Rattle.search_policy.proofs.RemovalLaws.{goes_by_keys}
use Rattle.search_policy.proofs.removal.sort.Goals as goal

pub returns-clause-sorted : goal.returns-clause-sorted
returns-clause-sorted c = λ k d low high.
    let order = c.sort_unstable_by_key.new.self.items in
    goes_by_keys (get_or order (k + 1) d) (get_or order k d)
    ∙ c.sort_unstable_by_key.ensures.sorted (λ (x : Card). (record { 0 = x.lbd }, x.id)) (answers_always _ _ _ (λ f a r g h. search rules)) k d low high
