use Rattle.std.proofs.Common.{sym, subst, [], ◌∷◌}
use Rattle.cx_base.specs.Integers.{integers_of}
use Rattle.cx_base.specs.declared.steps.LogEvent.TheVariants.{Step}
use Rattle.clause_arena.specs.Clauses.{id_at}
use Rattle.clause_tidy.specs.Agreeing.{IsStepId}
use Rattle.clause_tidy.specs.Steps.{strengthening}
use Rattle.clause_tidy.specs.Telling.{TellsIn}
use Rattle.clause_tidy.proofs.ShorterTold.{ending_told}
use Rattle.clause_tidy.proofs.tidier.Tidier.end.Goals as goal

pub tell_ending-requires-clause-by : goal.tell_ending-requires-clause-by
tell_ending-requires-clause-by g c = subst IsStepId (sym c.id-by.ensures) (c.requires.may.proper.ids c.args.pair.now.part c.requires.live.part)

pub tell_ending-requires-clause-id : goal.tell_ending-requires-clause-id
tell_ending-requires-clause-id g c = subst IsStepId (sym c.id-id.ensures) (c.requires.may.proper.ids c.args.pair.now.whole c.requires.live.whole)

pub returns : goal.returns
returns g c =
    let pair = c.args.pair.now in
    let spare = c.args.self.now.spare in
    let zs = integers_of c.args.rest.now in
    ending_told c.args.self.now.formula.now spare c.args.arena.now pair.part pair.whole c.requires.live.whole c.requires.live.part c.args.rest.now c.requires.shorter c.requires.may.proper g.L.Sink c.args.log.now c.tell_ending.new.log c.tell_ending.result c.requires.ends
    (subst (λ k. TellsIn g.L.Sink (Step (strengthening spare k (id_at c.args.arena.now pair.whole) zs) ∷ []) c.args.log.now c.tell_ending.result c.tell_ending.new.log) c.id-by.ensures
    (subst (λ n. TellsIn g.L.Sink (Step (strengthening spare c.id-by.result n zs) ∷ []) c.args.log.now c.tell_ending.result c.tell_ending.new.log) c.id-id.ensures c.tell_ending.ensures))
