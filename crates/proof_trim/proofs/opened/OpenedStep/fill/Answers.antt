use Rattle.std.proofs.Common.{◌≡◌, ◌-◌, ◌∙◌, subst, true, false, take, map, arith}
use Rattle.proof_trim.specs.Heads.{deletes}
use Rattle.proof_trim.specs.Integers.{part, unsigned}
use Rattle.proof_trim.specs.Stored.{step_by}
use Rattle.proof_trim.proofs.StoreLaws.{has_room, opened_as}
use Rattle.proof_trim.proofs.opened.OpenedStep.fill.Goals as goal

pub returns-clause-step : goal.returns-clause-step
returns-clause-step c =
    let zs = c.args.packed.now in
    let end = c.args.end in
    let head = c.at-step.result.head in
    let is = c.at-step.ensures in
    let integers = c.copy_lists.new.integers.items in
    let ids = c.copy_lists.new.ids.items in
    let room = has_room zs c.args.start end c.requires.low c.requires.high c.args.self.now.room c.requires.step in
    (λ i. step_by head.kind c.at-step.result.id (take head.literals integers) (part integers head.literals (end - is.start i)) (take (end - is.start i) ids))
    ∙ opened_as zs c.args.start end c.requires.low c.requires.high head.kind c.at-step.result.id head.literals integers ids room.0 (omega (arith, is.literals, room.1)) is.kind is.id is.literals
    (subst (λ start. deletes head.kind ≡ false → take (end - start) integers ≡ part zs start end) is.start
    (subst (λ last. deletes head.kind ≡ false → take (last - c.at-step.result.start) integers ≡ part zs c.at-step.result.start last) is.end c.copy_lists.ensures.integers))
    (subst (λ start. deletes head.kind ≡ true → take (end - start) ids ≡ map unsigned (part zs start end)) is.start
    (subst (λ last. deletes head.kind ≡ true → take (last - c.at-step.result.start) ids ≡ map unsigned (part zs c.at-step.result.start last)) is.end c.copy_lists.ensures.ids))
