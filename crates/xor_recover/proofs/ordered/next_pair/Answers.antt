use Rattle.std.proofs.Common.{◌<◌, sym, ap, ◌∙◌, arith, inl, inr, length}
use Rattle.std.proofs.lemmas.Bool.{cases_order}
use Rattle.xor_recover.specs.Starts.{pair_of}
use Rattle.xor_recover.specs.declared.wholes.Whole.{Whole}
use Rattle.xor_recover.proofs.Grouping.{at_any}
use Rattle.xor_recover.proofs.ordered.next_pair.Goals as goal

pub returns-then-whole-wholes : goal.returns-then-whole-wholes
returns-then-whole-wholes c =
    let S = c.args.starts.now in
    let W = c.args.wholes.now in
    let low : c.args.at < length S = c.if-at-starts.false in
    let low' : c.args.whole < length W = c.if-whole-wholes.true in
    let least = c.min.ensures in
    let start = c.pair-pair.ensures in
    let whole = c.pair-then-whole-wholes.ensures in
    elim (cases_order c.pair-pair.result c.pair-then-whole-wholes.result) [
      | inl e ↦ inl (low, λ d. let same = ap pair_of (at_any S c.args.at d _ low) ∙ sym start in omega (arith, same, e, least))
      | inr order ↦ elim order [
        | inl below ↦ inl (low, λ d. let same = ap pair_of (at_any S c.args.at d _ low) ∙ sym start in omega (arith, same, below, least))
        | inr over ↦ inr (low', λ d. let same = ap (λ (w : Whole). pair_of w.start) (at_any W c.args.whole d _ low') ∙ sym whole in omega (arith, same, over, least))
      ]
    ]
