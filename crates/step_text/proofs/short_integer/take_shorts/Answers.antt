use Rattle.std.proofs.Common.{◌∙◌, refl, ap, subst, sym, ◌+◌, ◌++◌, [], ◌∷◌, length, map, drop, to_z, of_z, w64, append_assoc, arith}
use Rattle.cx_texts.specs.Tokens.{tokens_within}
use Rattle.cx_texts.specs.Words.{placed_words}
use Rattle.cx_texts.specs.Grammar.{integer}
use Rattle.step_text.specs.Taking.{Takes}
use Rattle.step_text.proofs.AheadLaws.{short_first}
use Rattle.step_text.proofs.Taken.{short_end, short_integer}
use Rattle.step_text.proofs.TakingLaws.{one_more}
use Rattle.step_text.proofs.short_integer.take_shorts.Goals as goal

pub returns-then-short-eq0 : goal.returns-then-short-eq0
returns-then-short-eq0 c =
    let text = c.args.text.now in
    let at = c.loop-short.at in
    let next = c.begin_behind-at in
    let inv = c.loop-short.invariant in (
      inv.0,
      inv.1,
      (
        next.ensures.high,
        next.ensures.begins,
        λ from.
            let first = tokens_within (from + c.args.from) (drop c.args.from text) in
            let here = tokens_within (from + at) (drop at text) in
            let left = tokens_within (from + next.result) (drop next.result text) in
            let taken = inv.2.2 from in
            record {
              behind = placed_words here;
              numbers = subst (λ b. Takes (map integer inv.0) (placed_words first) b) (sym taken.closes) taken.numbers;
              closes = short_end here c.in-Some.short.value left (short_first from text at c.in-Some.short next.result inv.2.1 c.in-Some.ensures next.ensures.left) c.if-short-eq0.true;
            },
      ),
    )

pub loop-short-smaller : goal.loop-short-smaller
loop-short-smaller c =
    let next = c.begin_behind-at in
    let taken = short_first 0 c.args.text.now c.loop-short.at c.in-Some.short next.result c.loop-short.invariant.2.1 c.in-Some.ensures next.ensures.left in
    omega (arith, ap length taken.split)

pub loop-short-preserved : goal.loop-short-preserved
loop-short-preserved c =
    let text = c.args.text.now in
    let at = c.loop-short.at in
    let next = c.begin_behind-at in
    let inv = c.loop-short.invariant in
    let number = to_z w64 (of_z w64 c.in-Some.short.value) in (
      inv.0 ++ number ∷ [],
      c.in_ok-push.ensures.items ∙ ap (λ zs. zs ++ number ∷ []) inv.1 ∙ append_assoc c.args.members.now.items inv.0 (number ∷ []),
      (
        next.ensures.high,
        next.ensures.begins,
        λ from.
            let first = tokens_within (from + c.args.from) (drop c.args.from text) in
            let here = tokens_within (from + at) (drop at text) in
            let left = tokens_within (from + next.result) (drop next.result text) in
            let taken = inv.2.2 from in
            record {
              behind = placed_words left;
              numbers = one_more integer inv.0 number (placed_words first) (placed_words here) (placed_words left) (subst (λ b. Takes (map integer inv.0) (placed_words first) b) (sym taken.closes) taken.numbers)
                  (short_integer here c.in-Some.short.value left (short_first from text at c.in-Some.short next.result inv.2.1 c.in-Some.ensures next.ensures.left) c.if-short-eq0.false);
              closes = refl;
            },
      ),
    )
