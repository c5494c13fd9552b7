use Rattle.std.proofs.Common.{◌<◌, ◌/◌, ℕ, List, get_or, map, sym, subst, arith}
use Rattle.std.specs.List.{All}
use Rattle.std.proofs.lemmas.List.{get_or_read}
use Rattle.std.proofs.lemmas.List.Elements.{All-set, All-weaker, All-map, All-get_or}
use Rattle.search_policy.specs.declared.scores.TheConstants.{SCORE_LIMIT}
use Rattle.search_policy.proofs.scores.raise.Goals as goal

-- a score below the limit is below it once halved
halved_small : (xs : List ℕ) → All (λ s. s < SCORE_LIMIT) xs → All (λ s. s < SCORE_LIMIT) (map (λ s. s / 2) xs)
halved_small xs a = All-map (λ s. s < SCORE_LIMIT) (λ s. s / 2) xs (All-weaker (λ s. s < SCORE_LIMIT) (λ s. s / 2 < SCORE_LIMIT) (λ s h. omega arith) xs a)

pub returns-clause-small : goal.returns-clause-small
returns-clause-small c =
    let old = c.args.scores.now.items in
    let e = c.halve.ensures in
    let halves = subst (λ (xs : List ℕ). All (λ s. s < SCORE_LIMIT) xs) (sym e) (halved_small old c.requires.small) in
    let read = get_or_read old c.args.at _ c.requires.at c.index.ensures 0 in
    let below : get_or old c.args.at 0 < SCORE_LIMIT = All-get_or (λ s. s < SCORE_LIMIT) old c.args.at 0 c.requires.at c.requires.small in
    All-set (λ s. s < SCORE_LIMIT) c.halve.new.scores.items c.args.at _ (omega (arith, c.requires.few, read, below)) halves
