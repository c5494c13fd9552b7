use Rattle.std.proofs.Common.{◌⊎◌, ℕ, ◌+◌, ◌≤◌, List, length, sym, subst, arith, inl, inr}
use Rattle.xor_reason.proofs.Merging.{Merged, merged_first, merged_second, merged_both, merged_end}
use Rattle.xor_reason.proofs.sums.numbers_of_sum.Goals as goal
use Rattle.xor_reason.proofs.sums.numbers_of_sum.Goals.{then-merge-test+else-j-b, else-merge-test}

pub merge-preserved-then-a-i : goal.merge-preserved-then-a-i
merge-preserved-then-a-i c =
    let a = c.args.a.now in
    let b = c.args.b.now in
    let i_in = c.merge-test.true in (
      omega arith,
      c.merge.invariant.1,
      subst (λ (s : List ℕ). Merged a b s (c.merge.i + 1) c.merge.j) (sym c.in_ok-push.ensures.items)
          (merged_first a b c.merge.sum.items c.merge.i c.merge.j c.merge.invariant.2 c.merge-test.true c.if-j-b.true c.if-a-i.true),
    )

pub merge-preserved-then-b-j : goal.merge-preserved-then-b-j
merge-preserved-then-b-j c =
    let a = c.args.a.now in
    let b = c.args.b.now in
    let j_in = c.if-j-b.true in (
      c.merge.invariant.0,
      omega arith,
      subst (λ (s : List ℕ). Merged a b s c.merge.i (c.merge.j + 1)) (sym c.in_ok-push-2.ensures.items)
          (merged_second a b c.merge.sum.items c.merge.i c.merge.j c.merge.invariant.2 c.merge-test.true c.if-j-b.true c.if-b-j.true),
    )

pub merge-preserved : goal.merge-preserved
merge-preserved c =
    let i_in = c.merge-test.true in
    let j_in = c.if-j-b.true in
    let le = c.if-a-i.false in
    let ge = c.if-b-j.false in
    (omega arith, omega arith, merged_both c.args.a.now c.args.b.now c.merge.sum.items c.merge.i c.merge.j c.merge.invariant.2 c.merge-test.true c.if-j-b.true (omega arith))

pub returns : goal.returns
returns c =
    let a = c.args.a.now in
    let b = c.args.b.now in
    let past : (length a ≤ c.merge.i) ⊎ (length b ≤ c.merge.j) =
    elim c.merge-test.branch [ then-merge-test+else-j-b w ↦ inr w.if-j-b.false | else-merge-test w ↦ inl w.merge-test.false ] in
    merged_end a b c.merge.sum.items c.extend_from_slice.new.self.items c.extend_from_slice-2.new.self.items c.merge.i c.merge.j c.merge.invariant.2 past c.in_ok-extend_from_slice.ensures.items
    c.in_ok-extend_from_slice-2.ensures.items
