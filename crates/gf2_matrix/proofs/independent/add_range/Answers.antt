use Rattle.std.proofs.Common.{◌≡◌, ◌∙◌, ◌+◌, ◌-◌, ◌++◌, [], ◌∷◌, append_assoc, sym, ap, arith}
use Rattle.std.specs.List.{range_with_len}
use Rattle.gf2_rows.proofs.Words.{range_split}
use Rattle.gf2_matrix.proofs.independent.add_range.Goals as goal

pub loop-k-preserved : goal.loop-k-preserved
loop-k-preserved c =
    let old = c.args.numbers.now.items in
    let a = c.args.from + 1 in
    let k = c.loop-k.k in
    let n = k - c.args.from in
    let low = c.loop-k.auto.k in
    let next : a + n ≡ k + 1 = omega arith in
    let more : n + 1 ≡ k + 1 - c.args.from = omega arith in
    c.in_ok-push.ensures.items ∙ ap (λ ns. ns ++ (k + 1) ∷ []) c.loop-k.invariant ∙ append_assoc old (range_with_len a n) ((k + 1) ∷ [])
    ∙ ap (λ m. old ++ (range_with_len a n ++ m ∷ [])) (sym next) ∙ ap (λ ns. old ++ ns) (sym (range_split a n 1)) ∙ ap (λ m. old ++ range_with_len a m) more
