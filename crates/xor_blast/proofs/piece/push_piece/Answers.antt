use Rattle.std.proofs.Common.{◌≡◌, ◌∙◌, ◌^◌, length, arith}
use Rattle.xor_blast.proofs.BitLaws.{added_wrong, passed_right, all_added, word_of_power, at_most_sixteen}
use Rattle.xor_blast.proofs.piece.push_piece.Goals as goal
use Rattle.xor_blast.proofs.piece.push_piece.Goals.{then-is_sum_odd-right+in_ok-push_falsified, else-is_sum_odd-right}

pub is_sum_odd-requires : goal.is_sum_odd-requires
is_sum_odd-requires c =
    let k = length c.args.variables.now in
    let few = c.requires.four in
    omega (arith, c.loop-number-test.true, word_of_power k few, at_most_sixteen k few)

pub loop-number-preserved : goal.loop-number-preserved
loop-number-preserved c =
    let xs = c.args.variables.now in
    let few = c.requires.four in
    let n = c.loop-number.number in
    let odd = c.is_sum_odd.ensures (length xs) few (omega (arith, c.loop-number-test.true, word_of_power (length xs) few)) in
    elim c.if-is_sum_odd-right.branch [
      | then-is_sum_odd-right+in_ok-push_falsified w ↦
          added_wrong c.args.builder.now.constraints xs c.args.right n c.is_sum_odd.result odd c.loop-number.builder c.if-is_sum_odd-right.builder c.loop-number.invariant
          w.if-is_sum_odd-right.true (w.builder-is ∙ w.in_ok-push_falsified.ensures)
      | else-is_sum_odd-right w ↦
          passed_right c.args.builder.now.constraints xs c.args.right n c.is_sum_odd.result odd c.loop-number.builder c.if-is_sum_odd-right.builder c.loop-number.invariant
          w.if-is_sum_odd-right.false w.builder-is
    ]

pub returns : goal.returns
returns c =
    let xs = c.args.variables.now in
    let few = c.requires.four in
    let end : c.loop-number.number ≡ 2 ^ length xs = omega (arith, c.loop-number-test.false, c.loop-number.auto.number-end, word_of_power (length xs) few) in
    all_added c.args.builder.now.constraints xs c.args.right c.loop-number.number c.loop-number.builder few end c.loop-number.invariant
