use Rattle.std.proofs.Common.{◌≡◌, sym, ap, ◌∙◌, subst, ◌+◌, [], ◌∷◌, take, arith}
use Rattle.cx_base.specs.Problem.{Problem}
use Rattle.cx_base.specs.declared.constraint.Constraint.TheVariants as constraint
use Rattle.cx_base.specs.Integers.{integers_of}
use Rattle.cx_base.specs.declared.steps.LogEvent.TheVariants.{Step}
use Rattle.cx_base.specs.declared.steps.LogStep.TheVariants.{Original, OriginalParity}
use Rattle.cdcl_search.specs.Tells.{IsLeft, with_events}
use Rattle.cdcl_search.proofs.Outcomes.{on_both}
use Rattle.cdcl_search.proofs.Tellings.{holds_where, formula_holds}
use Rattle.cdcl_core.specs.Originals.{HasBegun, AreCounted}
use Rattle.cdcl_core.proofs.OriginalLaws.{clause_is_id, parity_is_id, clause_counted, parity_counted, clause_begun, parity_begun, assumption_counted, assumption_begun, begun_is_left}
use Rattle.cdcl_core.proofs.originals.tell_original.Goals as goal

pub overflow_add-counts : goal.overflow_add-counts
overflow_add-counts g c = let top = (clause_is_id c.args.log.now.formula.now c.args.place (constraint.Clause []) c.requires.place c.requires.few c.args.counts.now.clauses c.args.counts.now.parities c.requires.taken.counted (g.L.Sink.items c.args.log.now.sink.now) c.requires.taken.begun).1 in omega (arith, top)

pub original-step-requires : goal.original-step-requires
original-step-requires g c = clause_is_id c.args.log.now.formula.now c.args.place (constraint.Clause []) c.requires.place c.requires.few c.args.counts.now.clauses c.args.counts.now.parities c.requires.taken.counted (g.L.Sink.items c.args.log.now.sink.now) c.requires.taken.begun

pub tell_step-requires-clause-right : goal.tell_step-requires-clause-right
tell_step-requires-clause-right g c =
    let is : c.original-step.result ≡ Original (c.args.counts.now.clauses + 1) (integers_of c.in-Clause.lits.now) = c.original-step.ensures.is ∙ ap (Original (c.args.counts.now.clauses + 1)) c.in_ok-zs-in-Clause.ensures.integers in
    subst (λ x. IsLeft c.args.log.now.formula.now (with_events (Step x ∷ []) (g.L.Sink.items c.args.log.now.sink.now))) (sym is)
    (begun_is_left c.args.log.now.formula.now (take (c.args.place + 1) c.args.log.now.formula.now.constraints) _ (clause_begun c.args.log.now.formula.now c.args.place (constraint.Clause []) c.requires.place c.requires.few c.args.counts.now.clauses c.args.counts.now.parities c.requires.taken.counted (g.L.Sink.items c.args.log.now.sink.now) c.requires.taken.begun
    c.in-Clause.lits.now c.in-Clause.ensures.within (sym c.in-Clause.ensures.item)))

pub returns-in_ok-zs-in-Clause-clause-taken : goal.returns-in_ok-zs-in-Clause-clause-taken
returns-in_ok-zs-in-Clause-clause-taken g c =
    let is : c.original-step.result ≡ Original (c.args.counts.now.clauses + 1) (integers_of c.in-Clause.lits.now) = c.original-step.ensures.is ∙ ap (Original (c.args.counts.now.clauses + 1)) c.in_ok-zs-in-Clause.ensures.integers in
    on_both c.tell_step.result
    (formula_holds (λ (f : Problem). AreCounted (take (c.args.place + 1) f.constraints) (c.args.counts.now.clauses + 1) c.args.counts.now.parities) g.L.Sink c.args.log.now _ c.tell_step.result c.tell_step.new.log c.tell_step.ensures.log
    (clause_counted c.args.log.now.formula.now c.args.place (constraint.Clause []) c.requires.place c.requires.few c.args.counts.now.clauses c.args.counts.now.parities c.requires.taken.counted (g.L.Sink.items c.args.log.now.sink.now) c.requires.taken.begun
    c.in-Clause.lits.now c.in-Clause.ensures.within (sym c.in-Clause.ensures.item)))
    (holds_where (λ (f : Problem) told. HasBegun f (take (c.args.place + 1) f.constraints) told) (Step c.original-step.result ∷ []) g.L.Sink c.args.log.now _ c.tell_step.result c.tell_step.new.log c.tell_step.ensures.log c.tell_step.ensures.told
    (subst (λ x. HasBegun c.args.log.now.formula.now (take (c.args.place + 1) c.args.log.now.formula.now.constraints) (with_events (Step x ∷ []) (g.L.Sink.items c.args.log.now.sink.now))) (sym is)
    (clause_begun c.args.log.now.formula.now c.args.place (constraint.Clause []) c.requires.place c.requires.few c.args.counts.now.clauses c.args.counts.now.parities c.requires.taken.counted (g.L.Sink.items c.args.log.now.sink.now) c.requires.taken.begun
    c.in-Clause.lits.now c.in-Clause.ensures.within (sym c.in-Clause.ensures.item))))
    (λ counted begun. record { counted = counted; begun = begun })

pub overflow_add-counts-in-Parity : goal.overflow_add-counts-in-Parity
overflow_add-counts-in-Parity g c = let top = (parity_is_id c.args.log.now.formula.now c.args.place (constraint.Clause []) c.requires.place c.requires.few c.args.counts.now.clauses c.args.counts.now.parities c.requires.taken.counted (g.L.Sink.items c.args.log.now.sink.now) c.requires.taken.begun).1 in omega (arith, top)

pub original_parity-step-requires : goal.original_parity-step-requires
original_parity-step-requires g c = parity_is_id c.args.log.now.formula.now c.args.place (constraint.Clause []) c.requires.place c.requires.few c.args.counts.now.clauses c.args.counts.now.parities c.requires.taken.counted (g.L.Sink.items c.args.log.now.sink.now) c.requires.taken.begun

pub tell_step-requires-in-Parity-clause-right : goal.tell_step-requires-in-Parity-clause-right
tell_step-requires-in-Parity-clause-right g c =
    let is : c.original_parity-step.result ≡ OriginalParity (c.args.counts.now.parities + 1) (integers_of c.in-Parity.lits.now) = c.original_parity-step.ensures.is ∙ ap (OriginalParity (c.args.counts.now.parities + 1)) c.in_ok-zs-in-Parity.ensures.integers in
    subst (λ x. IsLeft c.args.log.now.formula.now (with_events (Step x ∷ []) (g.L.Sink.items c.args.log.now.sink.now))) (sym is)
    (begun_is_left c.args.log.now.formula.now (take (c.args.place + 1) c.args.log.now.formula.now.constraints) _ (parity_begun c.args.log.now.formula.now c.args.place (constraint.Clause []) c.requires.place c.requires.few c.args.counts.now.clauses c.args.counts.now.parities c.requires.taken.counted (g.L.Sink.items c.args.log.now.sink.now) c.requires.taken.begun
    c.in-Parity.lits.now c.in-Parity.ensures.within (sym c.in-Parity.ensures.item)))

pub returns-in_ok-zs-in-Parity-clause-taken : goal.returns-in_ok-zs-in-Parity-clause-taken
returns-in_ok-zs-in-Parity-clause-taken g c =
    let is : c.original_parity-step.result ≡ OriginalParity (c.args.counts.now.parities + 1) (integers_of c.in-Parity.lits.now) = c.original_parity-step.ensures.is ∙ ap (OriginalParity (c.args.counts.now.parities + 1)) c.in_ok-zs-in-Parity.ensures.integers in
    on_both c.tell_step-in-Parity.result
    (formula_holds (λ (f : Problem). AreCounted (take (c.args.place + 1) f.constraints) c.args.counts.now.clauses (c.args.counts.now.parities + 1)) g.L.Sink c.args.log.now _ c.tell_step-in-Parity.result c.tell_step-in-Parity.new.log c.tell_step-in-Parity.ensures.log
    (parity_counted c.args.log.now.formula.now c.args.place (constraint.Clause []) c.requires.place c.requires.few c.args.counts.now.clauses c.args.counts.now.parities c.requires.taken.counted (g.L.Sink.items c.args.log.now.sink.now) c.requires.taken.begun
    c.in-Parity.lits.now c.in-Parity.ensures.within (sym c.in-Parity.ensures.item)))
    (holds_where (λ (f : Problem) told. HasBegun f (take (c.args.place + 1) f.constraints) told) (Step c.original_parity-step.result ∷ []) g.L.Sink c.args.log.now _ c.tell_step-in-Parity.result c.tell_step-in-Parity.new.log c.tell_step-in-Parity.ensures.log c.tell_step-in-Parity.ensures.told
    (subst (λ x. HasBegun c.args.log.now.formula.now (take (c.args.place + 1) c.args.log.now.formula.now.constraints) (with_events (Step x ∷ []) (g.L.Sink.items c.args.log.now.sink.now))) (sym is)
    (parity_begun c.args.log.now.formula.now c.args.place (constraint.Clause []) c.requires.place c.requires.few c.args.counts.now.clauses c.args.counts.now.parities c.requires.taken.counted (g.L.Sink.items c.args.log.now.sink.now) c.requires.taken.begun
    c.in-Parity.lits.now c.in-Parity.ensures.within (sym c.in-Parity.ensures.item))))
    (λ counted begun. record { counted = counted; begun = begun })

pub returns-in-Assume-clause-taken : goal.returns-in-Assume-clause-taken
returns-in-Assume-clause-taken g c = record {
  counted = assumption_counted c.args.log.now.formula.now c.args.place (constraint.Clause []) c.requires.place c.requires.few c.args.counts.now.clauses c.args.counts.now.parities c.requires.taken.counted (g.L.Sink.items c.args.log.now.sink.now) c.requires.taken.begun
      c.in-Assume.field-0.now c.in-Assume.ensures.within (sym c.in-Assume.ensures.item);
  begun = assumption_begun c.args.log.now.formula.now c.args.place (constraint.Clause []) c.requires.place c.requires.few c.args.counts.now.clauses c.args.counts.now.parities c.requires.taken.counted (g.L.Sink.items c.args.log.now.sink.now) c.requires.taken.begun
      c.in-Assume.field-0.now c.in-Assume.ensures.within (sym c.in-Assume.ensures.item);
}

pub tell_step-requires-clause-going : goal.tell_step-requires-clause-going
tell_step-requires-clause-going g c = c.requires.going

pub tell_step-requires-in-Parity-clause-going : goal.tell_step-requires-in-Parity-clause-going
tell_step-requires-in-Parity-clause-going g c = c.requires.going
