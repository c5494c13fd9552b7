use Rattle.std.proofs.Common.{◌∙◌, sym, ap, arith}
use Rattle.std.proofs.lemmas.List.{take_all}
use Rattle.cx_base.specs.Integers.{sizes}
use Rattle.proof_rules.proofs.hints.ids_of.Goals as goal

pub returns : goal.returns
returns c =
    let hints = c.args.hints.now in
    let place = c.loop-place.place in
    let over = c.loop-place-test.false in
    let count = c.loop-place.invariant.count in
    sym (take_all place c.loop-place.ids.items (omega (arith, over, count))) ∙ c.loop-place.invariant.so_far ∙ ap sizes (take_all place hints over)
