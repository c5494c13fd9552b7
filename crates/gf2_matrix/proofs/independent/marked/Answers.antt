use Rattle.std.proofs.Common.{◌∙◌, ◌<◌, ◌++◌, [], ◌∷◌, cond, sym, ap, take, length, get_or, arith}
use Rattle.std.proofs.lemmas.List.{append-nil}
use Rattle.gf2_matrix.specs.Enough.{kept}
use Rattle.gf2_matrix.proofs.Choosing.{kept_more}
use Rattle.gf2_matrix.proofs.independent.marked.Goals as goal
use Rattle.gf2_matrix.proofs.independent.marked.Goals.{then-marks-k+in_ok-push, else-marks-k}

pub loop-k-preserved : goal.loop-k-preserved
loop-k-preserved c =
    let ns = c.args.numbers.now in
    let bs = c.args.marks.now in
    let k = c.loop-k.k in
    let t = c.loop-k-test.true in
    let k_in : k < length ns = omega arith in
    let n = get_or ns k 0 in
    let so = kept (take k ns) (take k bs) in
    let more = sym (kept_more ns bs k k_in (let e = c.requires in omega arith)) in
    elim c.if-marks-k.branch [
      | then-marks-k+in_ok-push w ↦
          rw w.left-is (w.in_ok-push.ensures.items ∙ ap (λ ls. ls ++ n ∷ []) c.loop-k.invariant ∙ ap (λ b. so ++ cond b (n ∷ []) []) (sym w.if-marks-k.true) ∙ more)
      | else-marks-k w ↦
          rw w.left-is (c.loop-k.invariant ∙ sym (append-nil so) ∙ ap (λ b. so ++ cond b (n ∷ []) []) (sym w.if-marks-k.false) ∙ more)
    ]
