use Rattle.std.proofs.Common.{◌≡◌, subst, ℕ, ◌+◌, Bool, List, ◌∷◌, drop, get_or}
use Rattle.std.proofs.lemmas.List.{drop_more}
use Rattle.rup_finder.specs.Saturation.{HasPassed, Turns}
use Rattle.rup_finder.specs.declared.search.PartialChain.{PartialChain}
use Rattle.rup_finder.proofs.Propagation.{pass_next}
use Rattle.rup_finder.proofs.search.pass.Goals as goal

pub returns-then-branch : goal.returns-then-branch
returns-then-branch c target come =
    let table = c.args.live.now.clauses in
    let here : ℕ = get_or c.args.ids.now c.loop-id.id-index 0 in
    let P : Bool → Type 0 = λ t. Turns table here c.loop-id.reached c.turn.new.reached c.loop-id.later.items c.turn.new.later.items t in
    subst P c.if-branch.true c.in_ok-turn.ensures target (c.loop-id.invariant.advances.come target come)

pub loop-id-preserved : goal.loop-id-preserved
loop-id-preserved c =
    let table = c.args.live.now.clauses in
    let ids : List ℕ = c.args.ids.now in
    let count = c.loop-id.id-index in
    let here : ℕ = get_or ids count 0 in
    let rest : List ℕ = drop (count + 1) ids in
    let next : drop count ids ≡ here ∷ rest = drop_more ids count 0 c.loop-id-test.true in
    let old : PartialChain = c.args.reached.now in
    let mid : PartialChain = c.loop-id.reached in
    let new : PartialChain = c.turn.new.reached in
    let later : List ℕ = c.loop-id.later.items in
    let new_later : List ℕ = c.turn.new.later.items in
    let P : Bool → Type 0 = λ t. Turns table here mid new later new_later t in
    let turned = subst P c.if-branch.false c.in_ok-turn.ensures in
    let before = subst (λ (ks : List ℕ). HasPassed table ids ks count old mid later) next c.loop-id.invariant in
    pass_next table ids old mid here rest later count before new new_later turned
