use Rattle.std.proofs.Common.{◌≡◌, ◌<◌, ◌/◌, ◌++◌, ℕ, List, length, map, take, drop, length-append, arith}
use Rattle.std.proofs.lemmas.List.{length-map, length-take, length-drop}
use Rattle.std.proofs.lemmas.List.Edits.{map_over_more}
use Rattle.search_policy.proofs.scores.halve.Goals as goal

-- the part that was done and the part that was not have the list's length
as_long : (xs : List ℕ) (i : ℕ) → length (map (λ s. s / 2) (take i xs) ++ drop i xs) ≡ length xs
as_long xs i =
    let a = length-append (map (λ s. s / 2) (take i xs)) (drop i xs) in
    let b = length-map (take i xs) (λ s. s / 2) in
    let c = length-take i xs in
    let d = length-drop i xs in
    omega (arith, a, b, c, d)

pub loop-at-preserved : goal.loop-at-preserved
loop-at-preserved c =
    let old = c.args.scores.now.items in
    let b : c.loop-at.at < length old = omega (arith, c.loop-at-test.true, c.len-at-end.ensures, c.args.scores.now.ok.0) in
    map_over_more (λ s. s / 2) old c.loop-at.scores.items c.loop-at.at _ b c.loop-at.invariant c.index_mut.ensures.value
