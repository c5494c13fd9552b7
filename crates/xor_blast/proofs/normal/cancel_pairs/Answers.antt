use Rattle.std.proofs.Common.{◌<◌, ◌≢◌, ◌-◌, ◌∙◌, sym, arith, get_or, length}
use Rattle.std.proofs.lemmas.List.{get_or_default}
use Rattle.xor_blast.proofs.OddLaws.{kept_of_none, kept_cancelled, kept_one_more}
use Rattle.xor_blast.proofs.normal.cancel_pairs.Goals as goal
use Rattle.xor_blast.proofs.normal.cancel_pairs.Goals.{then-kept-gt0+then-index-number, else-kept-gt0, else-kept-gt0-via-then-kept-gt0+else-index-number, else-kept-gt0-via-else-kept-gt0}

pub loop-place-init : goal.loop-place-init
loop-place-init c = kept_of_none c.args.numbers.now.items

pub loop-place-preserved : goal.loop-place-preserved
loop-place-preserved c =
    let so_far = c.loop-place.invariant in
    let before = so_far.before in
    let long = so_far.long in
    let inside : c.loop-place.place < length c.args.numbers.now.items = omega arith in
    let s = c.args.numbers.now.items in
    let m = c.loop-place.numbers.items in
    let i = c.loop-place.place in
    let k = c.loop-place.kept in
    let x = c.index-number.result.now in
    elim c.if-kept-gt0.branch [
      | then-kept-gt0+then-index-number w ↦
          let same = get_or_default m (k - 1) x w.index.result.now (omega arith) ∙ sym w.index.ensures ∙ w.if-index-number.true in
          rw (w.numbers-is, w.kept-is) (kept_cancelled s m i k x c.requires inside so_far c.index-number.ensures w.if-kept-gt0.true same)
      | else-kept-gt0 w ↦
          let other : 0 < k → get_or m (k - 1) x ≢ x = elim w.else-kept-gt0.branch [
            | else-kept-gt0-via-then-kept-gt0+else-index-number w' ↦ λ some same. w'.if-index-number.false (w'.index.ensures ∙ get_or_default m (k - 1) w'.index.result.now x (omega arith) ∙ same)
            | else-kept-gt0-via-else-kept-gt0 w' ↦ λ some. absurd (omega arith)
          ] in
          rw (w.numbers-is, w.kept-is) (kept_one_more s m i k x c.requires inside so_far c.index-number.ensures other)
    ]
