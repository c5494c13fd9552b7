use Rattle.std.proofs.Common.{◌≡◌, ◌∙◌, ◌+◌, ℕ, [], ◌∷◌, ◌++◌, sym, ap, arith}
use Rattle.std.specs.List.{range_with_len}
use Rattle.gf2_rows.proofs.Words.{range_split}
use Rattle.gauss_jordan.proofs.scratch.all_variables.Goals as goal

pub loop-before-preserved : goal.loop-before-preserved
loop-before-preserved c =
    let n : ℕ = c.loop-before.before in
    let e : 1 + n ≡ n + 1 = omega arith in
    c.in_ok-push.ensures.items ∙ ap (λ xs. xs ++ (n + 1) ∷ []) c.loop-before.invariant ∙ ap (λ v. range_with_len 1 n ++ v ∷ []) (sym e) ∙ sym (range_split 1 n 1)
