use Rattle.std.proofs.Common.{refl, ◌∙◌, ◌<◌, ◌-◌, length, length-set, arith}
use Rattle.proof_trim.proofs.PartLaws.{copied_id_more, ids_none}
use Rattle.proof_trim.proofs.integers.Integers.copy_ids.Goals as goal

pub loop-place-init : goal.loop-place-init
loop-place-init c = record { room = refl; copied = ids_none c.args.into.now.items c.args.self.now c.args.start }

pub loop-place-preserved : goal.loop-place-preserved
loop-place-preserved c =
    let before = c.loop-place.invariant in
    let room : c.loop-place.place - c.args.start < length c.loop-place.into.items = omega (arith, before.room, c.requires.room, c.requires.low, c.loop-place-test.true, c.loop-place.auto.place) in
    record {
      room = length-set c.loop-place.into.items (c.loop-place.place - c.args.start) c.id_at.result ∙ before.room;
      copied = copied_id_more c.args.self.now c.loop-place.into.items _ c.args.start c.loop-place.place c.id_at.result c.loop-place.auto.place (omega (arith, c.loop-place-test.true, c.requires.high)) room before.copied c.id_at.ensures refl;
    }
