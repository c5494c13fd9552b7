use Rattle.std.proofs.Common.{◌∙◌, take}
use Rattle.proof_rules.proofs.TableLaws.{elsewhere_next, still_elsewhere}
use Rattle.proof_rules.proofs.table.copy_moved.Goals as goal

pub loop-place-preserved : goal.loop-place-preserved
loop-place-preserved c =
    let moves = c.args.moves.now in
    let place = c.loop-place.place in
    let first = c.copy_first-in-loop-place.new.first in
    let before = still_elsewhere c.loop-place.first first (take place moves) (λ q h. c.copy_first-in-loop-place.ensures.fewer q (c.copy_first.ensures.fewer q h)) c.loop-place.invariant.none in
    record {
      same = c.copy_first-in-loop-place.ensures.same ∙ c.copy_first.ensures.same ∙ c.loop-place.invariant.same;
      none = elsewhere_next first moves place (record { from = 0; to = 0 }) c.loop-place-test.true before (c.copy_first-in-loop-place.ensures.fewer _ c.in_ok-copy_first.ensures.none) c.in_ok-copy_first-2.ensures.none;
    }
