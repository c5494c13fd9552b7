use Rattle.std.proofs.Common.{◌∙◌, ap, sym, add-one, drop}
use Rattle.proof_trim.specs.Kept.{chosen}
use Rattle.proof_trim.proofs.KeptLaws.{left_out}
use Rattle.proof_trim.proofs.kept.next_place.Goals as goal

pub loop-place-preserved : goal.loop-place-preserved
loop-place-preserved c = λ steps long.
    let place = c.loop-place.place in
    c.loop-place.invariant steps long ∙ left_out c.args.stays.now steps place _ c.loop-place-test.true long c.if-stays-place.false
    ∙ ap (λ k. chosen (drop k c.args.stays.now) (drop k steps)) (sym (add-one place))
