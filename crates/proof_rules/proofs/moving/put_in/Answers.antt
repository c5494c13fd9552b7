use Rattle.std.proofs.Common.{◌∙◌, ap, sym, List}
use Rattle.std.proofs.Math.ListN.{drop_of_length-le}
use Rattle.cx_base.specs.declared.id_moves.IdMove.{IdMove}
use Rattle.cx_semantics.specs.Moves.{put_moved}
use Rattle.proof_rules.proofs.MovingLaws.{put_moved_next}
use Rattle.proof_rules.proofs.moving.put_in.Goals as goal

pub loop-place-preserved : goal.loop-place-preserved
loop-place-preserved g c first is =
    put_moved_next first c.loop-place.values c.put_value.new.values c.args.moves.now c.args.found.now c.loop-place.place _ c.index-found-place.result c.loop-place-test.true is c.index-found-place.is c.in_ok-put_value.ensures
    ∙ c.loop-place.invariant first is

pub returns : goal.returns
returns g c first is = ap (λ (ms : List IdMove). put_moved first c.loop-place.values ms) (sym (drop_of_length-le c.args.moves.now c.loop-place-test.false)) ∙ c.loop-place.invariant first is
