use Rattle.std.proofs.lemmas.Result.{err_from_is_err_and}
use Rattle.std.proofs.Common.{arith}
use Rattle.step_text.specs.Spaced.{spaced_id}
use Rattle.step_text.proofs.Puts.{part_fails, part_put}
use Rattle.step_text.proofs.pieces.put_many_ids.Goals as goal

pub loop-done-preserved : goal.loop-done-preserved
loop-done-preserved g c = record {
  within = omega arith;
  put = part_put spaced_id c.args.members.now c.loop-done.done c.min-next.result c.args.port _ _ _ (omega arith) c.loop-done.invariant.put c.in_ok-put_sheet_of_ids.ensures;
}

pub returns-in_err-put_sheet_of_ids : goal.returns-in_err-put_sheet_of_ids
returns-in_err-put_sheet_of_ids g c =
    let p = err_from_is_err_and c.from_residual.result c.from_residual.ensures.1 in
    rw p.1 (part_fails spaced_id c.args.members.now c.loop-done.done c.min-next.result c.args.port _ _ _ (omega arith) c.loop-done.invariant.put c.in_err-put_sheet_of_ids.ensures)
