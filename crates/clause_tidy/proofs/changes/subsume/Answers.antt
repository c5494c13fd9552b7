use Rattle.std.proofs.Common.{refl, sym, []}
use Rattle.clause_tidy.specs.Tidying.{Tidies}
use Rattle.clause_tidy.proofs.Composing.{tidied_on}
use Rattle.clause_tidy.proofs.Events.{no_more}
use Rattle.clause_tidy.proofs.Tellings.{goes_on}
use Rattle.clause_tidy.proofs.Shrinkings.{on_ok, subsumed_shrinks}
use Rattle.clause_tidy.proofs.changes.subsume.Goals as goal

pub keep_for-requires : goal.keep_for-requires
keep_for-requires g c = record { part = c.requires.live.part; whole = c.requires.live.whole; differ = c.requires.differ; inside = c.requires.inside }

pub returns-clause-tidies : goal.returns-clause-tidies
returns-clause-tidies g c = λ formula spare.
    let a = c.args.arena.now in
    let b = c.keep_for.new.arena in
    let d = c.drop_clause.new.arena in
    let kept = c.keep_for.ensures.tidies formula spare in
    goes_on formula spare a b [] kept g.L.Sink (λ _. Tidies formula spare b d) (λ _. Tidies formula spare a d) c.args.log.now c.args.log.now c.drop_clause.new.log c.drop_clause.result tt
    (sym (no_more (g.L.Sink.items c.args.log.now))) refl refl (λ k. k) (λ _ ts t. tidied_on formula spare a b d [] ts kept t) (c.drop_clause.ensures.tidies formula spare)

pub returns-clause-shrinks : goal.returns-clause-shrinks
returns-clause-shrinks g c = on_ok c.drop_clause.result _ _
    (λ is. subsumed_shrinks c.args.arena.now c.keep_for.new.arena c.drop_clause.new.arena c.args.pair.now.whole c.keep_for.ensures.shrinks c.keep_for.ensures.references c.keep_for.ensures.live is) c.drop_clause.ensures.removed
