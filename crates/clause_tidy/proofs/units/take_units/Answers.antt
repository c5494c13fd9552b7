use Rattle.std.proofs.Common.{arith}
use Rattle.clause_tidy.proofs.TakingLaws.{wide_more, wide_all}
use Rattle.clause_tidy.proofs.units.take_units.Goals as goal

pub loop-place-preserved : goal.loop-place-preserved
loop-place-preserved c =
    let before = c.loop-place.invariant in
    let taken = c.in_ok-take_unit.ensures in
    record {
      takes = taken.takes c.args.arena.now before.takes;
      wide = wide_more c.loop-place.arena c.take_unit.new.arena c.args.first c.loop-place.place c.new.result c.new.ensures taken.left before.wide taken.wide;
    }

pub returns : goal.returns
returns c =
    let before = c.loop-place.invariant in
    let over = c.loop-place-test.false in
    let count = c.len-place-end.ensures.len in
    let size = before.takes.left.size in
    record {
      takes = before.takes;
      wide = wide_all c.loop-place.arena c.args.first c.loop-place.place (omega (arith, over, count, size)) before.wide;
    }
