use Rattle.std.proofs.Common.{◌<◌, ◌+◌, ◌++◌, ℕ, List, ap, ◌∙◌, subst, length, get_or}
use Rattle.std.specs.List.Sorted.{IsPermutation}
use Rattle.std.proofs.lemmas.Bool.{OnTrue_at}
use Rattle.cx_base.specs.Literals.{Literal}
use Rattle.gauss_incremental.proofs.ShortMaking.{put_in_order}
use Rattle.gauss_incremental.proofs.shorts.in_order.Goals as goal

pub returns-then-are_rising : goal.returns-then-are_rising
returns-then-are_rising c =
    let lits = c.args.lits.now in
    let sorted = c.sort_unstable_by_key.new.self.items in
    let taken = c.in_ok-extend_from_slice.ensures.items ∙ ap (λ (ls : List Literal). ls ++ lits) c.new-ordered.ensures.items in
    let moved = subst (λ (ls : List Literal). IsPermutation ls sorted) taken c.sort_unstable_by_key.ensures.permutation in
    let rising = subst (λ (ls : List Literal). (k : ℕ) (d : Literal) → k + 1 < length ls → (get_or ls k d).variable < (get_or ls (k + 1) d).variable) c.deref.ensures.value (OnTrue_at c.if-are_rising.true c.are_rising.ensures) in
    put_in_order c.args.vars lits sorted c.requires moved rising
