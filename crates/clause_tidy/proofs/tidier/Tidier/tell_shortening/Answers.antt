use Rattle.std.proofs.Common.{subst, pos, [], ◌∷◌}
use Rattle.cx_base.specs.declared.steps.LogStep.TheVariants.{ClauseWithHints, Delete}
use Rattle.cx_base.specs.declared.steps.LogEvent.TheVariants.{Step}
use Rattle.cx_base.specs.Integers.{integers_of}
use Rattle.clause_tidy.specs.Steps.{strengthening}
use Rattle.clause_tidy.specs.Telling.{TellsIn, as_events}
use Rattle.clause_tidy.proofs.Events.{nothing_told}
use Rattle.clause_tidy.proofs.tidier.Tidier.tell_shortening.Goals as goal

pub returns-in-Ok : goal.returns-in-Ok
returns-in-Ok g c = subst (λ ss. TellsIn g.L.Sink (as_events ss) c.args.log.now c.tell_all.result c.tell_all.new.log) c.in-Ok.ensures.steps c.tell_all.ensures

pub returns-in-Err : goal.returns-in-Err
returns-in-Err g c =
    let zs = integers_of c.args.rest.now in
    let n = c.args.id in
    let s = c.args.self.now.spare in
    nothing_told g.L.Sink (Step (strengthening s c.args.by n zs)) (Step (Delete n []) ∷ Step (ClauseWithHints n zs (pos s ∷ [])) ∷ Step (Delete s []) ∷ []) c.args.log.now (g.met.L.Sink.keeps_itself c.args.log.now)
