use Rattle.std.proofs.Common.{sym, ◌∙◌, ap}
use Rattle.rand_core.specs.Stream.{next_u64}
use Rattle.inst_gen.specs.Words.{stream}
use Rattle.inst_gen.specs.Planting.{literal_of}
use Rattle.inst_gen.proofs.WordLaws.{none_drawn, drawn_one}
use Rattle.inst_gen.proofs.drawing.draw_triple.Goals as goal

pub returns-clause-drawn : goal.returns-clause-drawn
returns-clause-drawn c =
    let s = stream c.args.generator.now in
    let one = drawn_one 0 _ s s _ (sym (none_drawn s)) c.word.ensures in
    let two = drawn_one 1 _ s _ _ one.1 c.word-2.ensures in
    let three = drawn_one 2 _ s _ _ two.1 c.word-3.ensures in
    let drawn = literal_of c.args.variables in
    λ i. record {
      first = (c.literal-first.ensures ∙ ap drawn (one.0 ∙ ap (λ x. (next_u64 x).0) (none_drawn s))) i;
      second = (c.literal-second.ensures ∙ ap drawn two.0) i;
      third = (c.literal-third.ensures ∙ ap drawn three.0) i;
    }

pub returns-clause-left : goal.returns-clause-left
returns-clause-left c =
    let s = stream c.args.generator.now in
    let one = drawn_one 0 _ s s _ (sym (none_drawn s)) c.word.ensures in
    let two = drawn_one 1 _ s _ _ one.1 c.word-2.ensures in
    (drawn_one 2 _ s _ _ two.1 c.word-3.ensures).1
