use Rattle.std.proofs.Common.{subst, [], ◌∷◌}
use Rattle.cx_base.specs.Integers.{integers_of}
use Rattle.cx_base.specs.declared.steps.LogEvent.TheVariants.{Step}
use Rattle.clause_tidy.specs.Steps.{strengthening}
use Rattle.clause_tidy.specs.Telling.{TellsIn}
use Rattle.clause_tidy.proofs.Events.{nothing_told}
use Rattle.clause_tidy.proofs.tidier.Tidier.tell_ending.Goals as goal

pub returns-in-Ok : goal.returns-in-Ok
returns-in-Ok g c = subst (λ s. TellsIn g.L.Sink (Step s ∷ []) c.args.log.now c.tell_one.result c.tell_one.new.log) c.in-Ok.ensures.is c.tell_one.ensures

pub returns-in-Err : goal.returns-in-Err
returns-in-Err g c = nothing_told g.L.Sink (Step (strengthening c.args.self.now.spare c.args.by c.args.id (integers_of c.args.rest.now))) [] c.args.log.now (g.met.L.Sink.keeps_itself c.args.log.now)
