use Rattle.std.proofs.Common.{◌∙◌, sym, ap, subst, ℕ, [], ◌∷◌, ◌++◌, Some, false, Ok, Err}
use Rattle.cx_base.specs.Integers.{integers_of}
use Rattle.clause_arena.specs.Clauses.{ArenaState, Stored, id_at}
use Rattle.clause_tidy.specs.Agreeing.{IsStepId}
use Rattle.clause_tidy.specs.Steps.{shortening}
use Rattle.clause_tidy.specs.Telling.{TellsIn, as_events}
use Rattle.clause_tidy.specs.Tidying.{Tidies}
use Rattle.clause_tidy.proofs.WeightLaws.{less_shorter}
use Rattle.clause_tidy.proofs.Dropping.{no_answer}
use Rattle.clause_tidy.proofs.ShorterTold.{still_live, grown_then_removed, nothing_on, shorter_told}
use Rattle.clause_tidy.proofs.Shrinkings.{shortened_shrinks}
use Rattle.clause_tidy.proofs.tidier.Tidier.shorten.Goals as goal

pub tell_shortening-requires-clause-by : goal.tell_shortening-requires-clause-by
tell_shortening-requires-clause-by g c = subst IsStepId (sym c.id-by.ensures) (c.requires.may.proper.ids c.args.pair.now.part c.requires.live.part)

pub tell_shortening-requires-clause-id : goal.tell_shortening-requires-clause-id
tell_shortening-requires-clause-id g c = subst IsStepId (sym c.id-id.ensures) (c.requires.may.proper.ids c.args.pair.now.whole c.requires.live.whole)

pub remove-requires : goal.remove-requires
remove-requires g c = still_live c.args.arena.now c.add.new.self c.args.pair.now.whole _ c.in-Ok.ensures.added c.requires.live.whole

pub returns-in-Err-clause-tidies : goal.returns-in-Err-clause-tidies
returns-in-Err-clause-tidies g c = nothing_on g.L.Sink c.args.arena.now c.args.log.now (λ _. Tidies c.args.self.now.formula.now c.args.self.now.spare c.args.arena.now c.add.new.self) (g.met.L.Sink.keeps_itself c.args.log.now) c.args.self.now.formula.now c.args.self.now.spare

pub returns-in-Err-tell_shortening-clause-tidies : goal.returns-in-Err-tell_shortening-clause-tidies
returns-in-Err-tell_shortening-clause-tidies g c =
    shorter_told c.args.self.now.formula.now c.args.self.now.spare c.args.arena.now c.args.pair.now.part c.args.pair.now.whole c.requires.live.whole c.requires.live.part c.args.rest.now c.requires.shorter c.requires.may.proper g.L.Sink c.args.log.now c.tell_shortening.new.log (Err c.in-Err-tell_shortening.fault)
    c.add.new.self 0 c.requires.goes_on c.requires.short (λ t e. no_answer c.in-Err-tell_shortening.fault t e)
    (subst (λ k. TellsIn {T = Unit {0}} g.L.Sink (as_events (shortening c.args.self.now.spare k (id_at c.args.arena.now c.args.pair.now.whole) (integers_of c.args.rest.now))) c.args.log.now (Err c.in-Err-tell_shortening.fault) c.tell_shortening.new.log) c.id-by.ensures
    (subst (λ n. TellsIn {T = Unit {0}} g.L.Sink (as_events (shortening c.args.self.now.spare c.id-by.result n (integers_of c.args.rest.now))) c.args.log.now (Err c.in-Err-tell_shortening.fault) c.tell_shortening.new.log) c.id-id.ensures c.in-Err-tell_shortening.ensures))

pub returns-in-Ok-tell_shortening-clause-tidies : goal.returns-in-Ok-tell_shortening-clause-tidies
returns-in-Ok-tell_shortening-clause-tidies g c =
    let a = c.args.arena.now in
    let added = c.in-Ok.ensures.added ∙ ap (λ (n : ℕ). a.clauses ++ Some (record { literals = c.args.rest.now; id = n; lbd = c.lbd-lbd.result; learned = false }) ∷ []) c.id-id.ensures in
    shorter_told c.args.self.now.formula.now c.args.self.now.spare a c.args.pair.now.part c.args.pair.now.whole c.requires.live.whole c.requires.live.part c.args.rest.now c.requires.shorter c.requires.may.proper g.L.Sink c.args.log.now c.tell_shortening.new.log (Ok tt)
    c.remove.new.self c.lbd-lbd.result c.requires.goes_on c.requires.short
    (λ t e. grown_then_removed a c.add.new.self c.remove.new.self c.args.pair.now.whole _ c.requires.live.whole added (ap (λ (x : ArenaState). x.clauses) c.remove.ensures))
    (subst (λ k. TellsIn {T = Unit {0}} g.L.Sink (as_events (shortening c.args.self.now.spare k (id_at a c.args.pair.now.whole) (integers_of c.args.rest.now))) c.args.log.now (Ok tt) c.tell_shortening.new.log) c.id-by.ensures
    (subst (λ n. TellsIn {T = Unit {0}} g.L.Sink (as_events (shortening c.args.self.now.spare c.id-by.result n (integers_of c.args.rest.now))) c.args.log.now (Ok tt) c.tell_shortening.new.log) c.id-id.ensures c.in-Ok-tell_shortening.ensures))

pub returns-in-Ok-tell_shortening-clause-less : goal.returns-in-Ok-tell_shortening-clause-less
returns-in-Ok-tell_shortening-clause-less g c =
    less_shorter c.args.arena.now c.remove.new.self c.args.pair.now.whole (record { literals = c.args.rest.now; id = c.id-id.result; lbd = c.lbd-lbd.result; learned = false }) c.requires.live.whole c.requires.short
    (grown_then_removed c.args.arena.now c.add.new.self c.remove.new.self c.args.pair.now.whole (record { literals = c.args.rest.now; id = c.id-id.result; lbd = c.lbd-lbd.result; learned = false }) c.requires.live.whole c.in-Ok.ensures.added (ap (λ (x : ArenaState). x.clauses) c.remove.ensures))

pub returns-in-Ok-tell_shortening-clause-shrinks : goal.returns-in-Ok-tell_shortening-clause-shrinks
returns-in-Ok-tell_shortening-clause-shrinks g c =
    let new : Stored = record { literals = c.args.rest.now; id = c.id-id.result; lbd = c.lbd-lbd.result; learned = false } in
    shortened_shrinks c.args.arena.now c.remove.new.self c.args.pair.now.part c.args.pair.now.whole c.requires.live.whole new c.requires.shorter
    (grown_then_removed c.args.arena.now c.add.new.self c.remove.new.self c.args.pair.now.whole new c.requires.live.whole c.in-Ok.ensures.added (ap (λ (x : ArenaState). x.clauses) c.remove.ensures))
