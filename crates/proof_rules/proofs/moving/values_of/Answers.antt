use Rattle.std.proofs.Common.{◌∙◌, ap, ◌+◌, length}
use Rattle.std.proofs.lemmas.List.{take_all, length_push}
use Rattle.std.specs.FinMap as map
use Rattle.cx_base.specs.declared.id_moves.IdMove.{IdMove}
use Rattle.proof_rules.specs.Moving.{values_for}
use Rattle.proof_rules.proofs.LoopSteps.{map_more}
use Rattle.proof_rules.proofs.moving.values_of.Goals as goal

pub loop-place-preserved : goal.loop-place-preserved
loop-place-preserved g c = record {
  found = c.push_reserved.ensures.items ∙ map_more (λ (m : IdMove). map.get c.args.values.now m.from) c.args.moves.now c.loop-place.place _ c.loop-place.invariant.found c.loop-place-test.true c.value_of.ensures;
  count = ap length c.push_reserved.ensures.items ∙ length_push c.loop-place.found.items c.value_of.result ∙ ap (λ n. n + 1) c.loop-place.invariant.count;
  room = c.push_reserved.ensures.capacity ∙ c.loop-place.invariant.room;
}

pub returns : goal.returns
returns g c = c.loop-place.invariant.found ∙ ap (values_for c.args.values.now) (take_all c.loop-place.place c.args.moves.now c.loop-place-test.false)
