use Rattle.std.proofs.Common.{◌∙◌}
use Rattle.std.proofs.lemmas.Bool.{MatchBool-at_true, MatchBool-at_false}
use Rattle.std.proofs.lemmas.List.{at_drop_all}
use Rattle.xor_recover.specs.Rows.{gathered}
use Rattle.xor_recover.proofs.Placing.{place_more, place_none, placed_short}
use Rattle.xor_recover.proofs.gathering.gather.Goals as goal

pub loop-lit-preserved : goal.loop-lit-preserved
loop-lit-preserved c =
    let put = MatchBool-at_true _ _ c.if-not-branch.false c.in_ok-place.ensures in
    record {
      gathers = place_more c.args.lits.now c.loop-lit.normal.items c.place.new.normal.items c.loop-lit.lit-index c.lit-item.result c.loop-lit-test.true c.lit-item.is put c.loop-lit.invariant.gathers;
      short = placed_short c.lit-item.result c.loop-lit.normal.items c.place.new.normal.items put;
    }

pub returns-then-not-branch-clause-gathered : goal.returns-then-not-branch-clause-gathered
returns-then-not-branch-clause-gathered c =
    place_none c.args.lits.now c.loop-lit.normal.items c.loop-lit.lit-index c.lit-item.result c.loop-lit-test.true c.lit-item.is
    (MatchBool-at_false _ _ c.if-not-branch.true c.in_ok-place.ensures) c.loop-lit.invariant.gathers

pub returns-clause-gathered : goal.returns-clause-gathered
returns-clause-gathered c = c.loop-lit.invariant.gathers ∙ at_drop_all (gathered c.loop-lit.normal.items) c.args.lits.now c.loop-lit.lit-index c.loop-lit-test.false

pub returns-clause-short : goal.returns-clause-short
returns-clause-short c = c.loop-lit.invariant.short
