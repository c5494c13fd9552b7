use Rattle.std.proofs.Common.{◌∙◌, ◌++◌, ap, ◌+◌, [], ◌∷◌, length, length-append, arith}
use Rattle.proof_rules.specs.Places.{entries_of, places_of}
use Rattle.proof_rules.proofs.PageLaws.{entries_of-push, place_reached}
use Rattle.proof_rules.proofs.id_map.add_pages.Goals as goal

pub loop-preserved : goal.loop-preserved
loop-preserved g c =
    let pushed = c.in_ok-push.ensures.items ∙ ap (λ page. c.loop.near.items ++ page ∷ []) c.new.ensures in (
      ap (λ pages. entries_of (places_of pages)) pushed ∙ entries_of-push c.loop.near.items ∙ c.loop.invariant.0,
      ap length pushed ∙ length-append c.loop.near.items ([] ∷ []) ∙ ap (λ n. n + 1) c.loop.invariant.1,
    )

pub returns-clause-reached : goal.returns-clause-reached
returns-clause-reached g c = let n = c.loop.invariant.1 in let past = c.loop-test.false in place_reached c.loop.near.items c.args.id (grind (arith, n, past))
