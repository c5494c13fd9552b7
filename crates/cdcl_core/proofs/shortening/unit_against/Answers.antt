use Rattle.std.proofs.Common.{◌∙◌, sym, ◌<◌, length, arith}
use Rattle.std.proofs.lemmas.List.{get_or_read}
use Rattle.cdcl_core.proofs.KnownLaws.{none_past, none_by}
use Rattle.cdcl_core.proofs.shortening.unit_against.Goals as goal

pub returns-then-place-len-clause-none : goal.returns-then-place-len-clause-none
returns-then-place-len-clause-none c = λ e. none_past c.args.state.now c.truth.ensures.sound c.requires.few c.args.lit c.place_of-place.result c.place_of-place.ensures.within c.place_of-place.ensures.negated
    (let far = c.if-place-len.true in let long = c.len.ensures in omega (arith, far, long))

pub returns-else-place-len-clause-told : goal.returns-else-place-len-clause-told
returns-else-place-len-clause-told c =
    let low : c.place_of-place.result < length c.args.state.now.units.items = let near = c.if-place-len.false in let long = c.len.ensures in omega (arith, near, long) in
    let id = get_or_read c.args.state.now.units.items c.place_of-place.result c.index.result.now low c.index.ensures 0 in
    ((c.place_of-place.result, low, c.place_of-place.ensures.negated ∙ sym c.negate.ensures, id), c.negate.ensures)

pub returns-in_default : goal.returns-in_default
returns-in_default c = record { told = tt; none = λ e. none_by c.args.state.now c.truth.ensures.sound c.requires.few c.args.lit c.truth.result c.in_default.not-False c.truth.ensures.means }
