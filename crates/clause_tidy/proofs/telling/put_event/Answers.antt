use Rattle.std.proofs.Common.{rules}
use Rattle.clause_tidy.specs.Telling.{IsTornIn}
use Rattle.clause_tidy.proofs.Events.{one_is_not_told, torn_with_text}
use Rattle.clause_tidy.proofs.telling.put_event.Goals as goal

pub returns-in-Err : goal.returns-in-Err
returns-in-Err g c = record {
  told = one_is_not_told (IsTornIn g.L.Sink c.put.new.self) c.args.event.now (g.L.Sink.items c.args.log.now) (g.L.Sink.items c.put.new.self) c.in-Err.fault c.in-Err.ensures.same
      (torn_with_text (g.L.Sink.torn c.put.new.self) c.args.event.now c.in-Err.fault c.requires.text c.in-Err.ensures.torn);
  faults = search rules;
  failed = search rules;
  frame = search rules;
}
