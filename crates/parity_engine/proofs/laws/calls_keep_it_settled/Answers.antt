use Rattle.parity_engine.proofs.Settled.{assigned_is_settled, back_is_settled, fresh_is_settled, pushed_is_settled, reported_is_settled}
use Rattle.parity_engine.proofs.laws.calls_keep_it_settled.Goals as goal

pub returns : goal.returns
returns c = record {
  made = fresh_is_settled;
  assignments = assigned_is_settled;
  events = reported_is_settled;
  levels = pushed_is_settled;
  backjumps = back_is_settled;
}
