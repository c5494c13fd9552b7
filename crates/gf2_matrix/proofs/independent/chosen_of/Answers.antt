use Rattle.std.proofs.Common.{◌≡◌, ◌∙◌, ◌<◌, ◌-◌, ◌++◌, [], ◌∷◌, sym, ap, take, length, get_or, arith}
use Rattle.parity_engine.specs.Equations.{parity_number, numbered}
use Rattle.parity_engine.proofs.Rising.{column-low, column-high}
use Rattle.gf2_matrix.proofs.Updates.{same_read}
use Rattle.gf2_matrix.proofs.Choosing.{numbered_more}
use Rattle.gf2_matrix.proofs.independent.chosen_of.Goals as goal

pub overflow_sub-parity : goal.overflow_sub-parity
overflow_sub-parity c =
    let t = c.loop-number-test.true in
    column-low 1 (length c.args.parities.now) c.args.numbers.now c.loop-number.number-index c.requires (omega arith)

pub bounds-parities-number : goal.bounds-parities-number
bounds-parities-number c =
    let t = c.loop-number-test.true in
    let low = column-low 1 (length c.args.parities.now) c.args.numbers.now c.loop-number.number-index c.requires (omega arith) in
    let high = column-high 1 (length c.args.parities.now) c.args.numbers.now c.loop-number.number-index c.requires (omega arith) in
    omega arith

pub loop-number-preserved : goal.loop-number-preserved
loop-number-preserved c =
    let ns = c.args.numbers.now in
    let given = c.args.parities.now in
    let i = c.loop-number.number-index in
    let t = c.loop-number-test.true in
    let i_in : i < length ns = omega arith in
    let low = column-low 1 (length given) ns i c.requires i_in in
    let high = column-high 1 (length given) ns i c.requires i_in in
    let read = c.index-parities-number.is ∙ same_read given (get_or ns i 0 - 1) c.index-parities-number.result [] (omega arith) in
    let value : c.from_vec.result ≡ parity_number given (get_or ns i 0) =
    c.from_vec.ensures ∙ c.in_ok-to_vec.ensures.items_if_clones_equal (λ x y h. h) ∙ c.as_slice.ensures ∙ read in
    c.in_ok-push.ensures.items ∙ ap (λ ls. ls ++ c.from_vec.result ∷ []) c.loop-number.invariant ∙ ap (λ l. numbered given (take i ns) ++ l ∷ []) value ∙ sym (numbered_more given ns i i_in)
