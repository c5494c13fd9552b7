use Rattle.std.proofs.Common.{◌≡◌, refl, sym, ap, ◌∙◌, ◌<◌, ◌-◌, length, length-set, take, w64, rules, arith}
use mir.Val.{SFits}
use Rattle.std.proofs.lemmas.Int.{to_z-of_z}
use Rattle.proof_trim.specs.Integers.{part}
use Rattle.proof_trim.proofs.PartLaws.{copied_more, part_none, part_past}
use Rattle.proof_trim.proofs.integers.Integers.copy.Goals as goal

pub returns-then-short-start-clause-copied : goal.returns-then-short-start-clause-copied
returns-then-short-start-clause-copied c =
    let short = c.self.inside.short.items in
    let longer = c.self.inside.longer in
    let start = c.args.start in
    let end = c.args.end in
    let before : c.len-short.result ≡ length short = omega (arith, c.len-short.ensures, c.self.inside.short.ok.0) in
    let count : end - start ≡ (end - c.len-short.result) - (start - c.len-short.result) = omega (arith, c.requires.low, c.if-short-start.true) in
    ap (λ n. take n c.copy.new.into.items) count ∙ c.copy.ensures.copied
    ∙ (λ i. part longer (start - before i) (end - before i)) ∙ sym (part_past short longer start end (omega (arith, before, c.if-short-start.true)) c.requires.low)
    ∙ ap (λ zs. part zs start end) c.self.view_is

pub loop-place-init : goal.loop-place-init
loop-place-init c = record { room = refl; copied = part_none c.args.into.now.items c.args.self.now c.args.start }

pub loop-place-preserved : goal.loop-place-preserved
loop-place-preserved c =
    let before = c.loop-place.invariant in
    let here = c.at.result in
    let fits : SFits w64 here = search rules in
    let room : c.loop-place.place - c.args.start < length c.loop-place.into.items = omega (arith, before.room, c.requires.room, c.requires.low, c.loop-place-test.true, c.loop-place.auto.place) in
    record {
      room = length-set c.loop-place.into.items (c.loop-place.place - c.args.start) _ ∙ before.room;
      copied = copied_more c.args.self.now c.loop-place.into.items _ c.args.start c.loop-place.place _ c.loop-place.auto.place (omega (arith, c.loop-place-test.true, c.requires.high)) room before.copied
          (to_z-of_z w64 here fits ∙ c.at.ensures) refl;
    }
