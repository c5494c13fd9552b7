use Rattle.std.proofs.Common.{◌∙◌}
use Rattle.plain_tests.proofs.MarkingLaws.{ok_moved}
use Rattle.plain_tests.proofs.tables.move_ids.Goals as goal

pub returns : goal.returns
returns c = ok_moved c.args.kind c.args.live.now c.take_out.new.live c.put_contents.new.live c.args.moves.now c.deref.result.now c.put_contents.result (c.deref.ensures.value ∙ c.in_ok-contents.ensures) c.take_out.ensures c.put_contents.ensures
