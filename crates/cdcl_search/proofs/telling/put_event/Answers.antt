use Rattle.cdcl_search.proofs.Events.{one_is_not_told, faults_as, failed_as}
use Rattle.std.proofs.Common.{rules}
use Rattle.cdcl_search.proofs.telling.put_event.Goals as goal

pub returns-in-Err : goal.returns-in-Err
returns-in-Err g c = record {
  told = one_is_not_told (g.L.Sink.torn c.put.new.self) c.args.event.now (g.L.Sink.items c.args.sink.now) (g.L.Sink.items c.put.new.self) c.in-Err.fault c.fault_of.result
      c.fault_of.ensures c.in-Err.ensures.same c.in-Err.ensures.torn;
  faults = faults_as c.in-Err.fault c.fault_of.result (g.L.Sink.faults c.args.sink.now) (g.L.Sink.faults c.put.new.self) c.fault_of.ensures c.in-Err.ensures.faults;
  failed = failed_as c.in-Err.fault c.fault_of.result (g.L.Sink.has_failed c.args.sink.now) (g.L.Sink.has_failed c.put.new.self) c.fault_of.ensures c.in-Err.ensures.failed;
  frame = search rules;
}
