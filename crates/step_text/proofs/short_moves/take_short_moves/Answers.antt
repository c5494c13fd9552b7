use Rattle.std.proofs.Common.{◌∙◌, refl, ap, ◌+◌, ◌++◌, [], ◌∷◌, drop, append_assoc}
use Rattle.cx_texts.specs.Tokens.{tokens_within}
use Rattle.cx_texts.specs.Words.{placed_words}
use Rattle.step_text.proofs.ShortLaws.{pair_shortens}
use Rattle.step_text.proofs.TakingLaws.{more_pairs}
use Rattle.step_text.proofs.short_moves.take_short_moves.Goals as goal

pub loop-pair-smaller : goal.loop-pair-smaller
loop-pair-smaller c =
    let text = c.args.text.now in
    let at = c.loop-pair.at in
    let next = c.in-Some.pair.next in
    pair_shortens c.in-Some.pair.ids (tokens_within (0 + at) (drop at text)) (tokens_within (0 + next) (drop next text)) (c.in-Some.ensures.2 0)

pub loop-pair-preserved : goal.loop-pair-preserved
loop-pair-preserved c =
    let text = c.args.text.now in
    let at = c.loop-pair.at in
    let pair = c.in-Some.pair in
    let taken = c.in-Some.ensures in
    let inv = c.loop-pair.invariant in (
      inv.0 ++ pair.ids ∷ [],
      c.in_ok-push.ensures.items ∙ ap (λ ms. ms ++ pair.ids ∷ []) inv.1 ∙ append_assoc c.args.members.now.items inv.0 (pair.ids ∷ []),
      (
        taken.0,
        taken.1,
        λ from.
            let first = placed_words (tokens_within (from + c.args.from) (drop c.args.from text)) in
            let here = placed_words (tokens_within (from + at) (drop at text)) in
            let left = placed_words (tokens_within (from + pair.next) (drop pair.next text)) in
            more_pairs inv.0 (pair.ids ∷ []) (inv.0 ++ pair.ids ∷ []) first here left refl (inv.2.2 from) (taken.2 from),
      ),
    )
