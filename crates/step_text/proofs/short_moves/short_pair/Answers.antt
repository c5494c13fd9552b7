use Rattle.std.proofs.Common.{◌+◌, [], ◌∷◌, drop, nat_abs, to_z, of_z, w64, arith}
use Rattle.std.proofs.lemmas.Int.{ints}
use Rattle.cx_texts.specs.Tokens.{tokens_within}
use Rattle.cx_texts.specs.Words.{placed_words}
use Rattle.cx_texts.specs.Grammar.{id}
use Rattle.step_text.proofs.AheadLaws.{begins_short, short_first, space_passed}
use Rattle.step_text.proofs.Taken.{short_id}
use Rattle.step_text.proofs.TakingLaws.{takes_append}
use Rattle.step_text.proofs.short_moves.short_pair.Goals as goal

pub returns : goal.returns
returns c =
    let text = c.args.text.now in
    let at = c.args.at in
    let next = c.begin_behind in
    let old = c.in_ok-old.old in
    let new = c.in_ok-new.new in
    let between = at + old.len + 1 in (
      next.ensures.high,
      next.ensures.begins,
      λ from.
          let here = tokens_within (from + at) (drop at text) in
          let middle = tokens_within (from + between) (drop between text) in
          let left = tokens_within (from + next.result) (drop next.result text) in
          takes_append (id (nat_abs (to_z w64 (of_z w64 old.value))) ∷ []) (id (nat_abs (to_z w64 (of_z w64 new.value))) ∷ []) (placed_words here) (placed_words middle) (placed_words left)
          (short_id here old.value middle (short_first from text at old between c.requires.begins c.in_ok-old.ensures.front (space_passed text at old c.in_ok-old.ensures.front c.in_ok-old.ensures.space)) (omega (arith, ints, c.if-old-lt1.false)))
          (short_id middle new.value left (short_first from text between new next.result (begins_short text between new c.in_ok-new.ensures.front) c.in_ok-new.ensures.front next.ensures.left) (omega (arith, ints, c.if-new-lt1.false))),
    )
