use Rattle.std.proofs.Common.{◌<◌, ◌+◌, ◌++◌, ap, ◌∙◌, subst, length, get_or, List, ℕ}
use Rattle.std.specs.Bool.{OnTrue}
use Rattle.std.specs.List.Sorted.{IsPermutation}
use Rattle.cx_base.specs.Literals.{Literal}
use Rattle.xor_recover.proofs.Once.{gathered_rising}
use Rattle.xor_recover.proofs.wholes.put_in_order.Goals as goal

pub returns : goal.returns
returns c =
    let lits = c.args.lits.now in
    let sorted = c.sort_unstable_by_key.new.self.items in
    let taken = c.in_ok-extend_from_slice.ensures.items ∙ ap (λ (ls : List Literal). ls ++ lits) c.clear.ensures.items in
    let moves = subst (λ (ls : List Literal). IsPermutation ls sorted) taken c.sort_unstable_by_key.ensures.permutation in
    let rising = subst (λ (ls : List Literal). OnTrue c.are_rising.result ((k : ℕ) (d : Literal) → k + 1 < length ls → (get_or ls k d).variable < (get_or ls (k + 1) d).variable)) c.deref.ensures.value c.are_rising.ensures in
    gathered_rising c.are_rising.result lits sorted c.requires.within c.requires.six moves rising
