use Rattle.std.proofs.Common.{refl, ◌∙◌, ◌<◌, ◌-◌, length, length-set, w64, rules, arith}
use mir.Val.{SFits}
use Rattle.std.proofs.lemmas.Int.{to_z-of_z}
use Rattle.proof_trim.proofs.PartLaws.{copied_more, part_none}
use Rattle.proof_trim.proofs.longer.LongerIntegers.copy.Goals as goal

pub loop-place-init : goal.loop-place-init
loop-place-init c = record { room = refl; copied = part_none c.args.into.now.items c.args.self.now c.args.start }

pub loop-place-preserved : goal.loop-place-preserved
loop-place-preserved c =
    let before = c.loop-place.invariant in
    let here = c.at.result in
    let fits : SFits w64 here = search rules in
    let room : c.loop-place.place - c.args.start < length c.loop-place.into.items = omega (arith, before.room, c.requires.room, c.requires.low, c.loop-place-test.true, c.loop-place.auto.place) in
    record {
      room = length-set c.loop-place.into.items (c.loop-place.place - c.args.start) _ ∙ before.room;
      copied = copied_more c.args.self.now c.loop-place.into.items _ c.args.start c.loop-place.place _ c.loop-place.auto.place (omega (arith, c.loop-place-test.true, c.requires.high)) room before.copied
          (to_z-of_z w64 here fits ∙ c.at.ensures) refl;
    }
