use Rattle.std.proofs.Common.{◌≡◌, ◌∙◌, ap, sym, subst, pos, ◌+◌, ◌∷◌, ◌++◌, [], List, Contains, Ok}
use Rattle.std.proofs.lemmas.Result.{err_from_is_err_and}
use Rattle.cx_base.specs.Literals.{Literal}
use Rattle.cx_base.specs.Integers.{integers_of}
use Rattle.cx_base.specs.declared.steps.LogEvent.TheVariants.{Step}
use Rattle.cx_base.specs.declared.steps.LogStep.TheVariants.{ClauseWithHints}
use Rattle.cx_semantics.specs.Chain.{negations}
use Rattle.cdcl_search.specs.GoingOn.{log_then}
use Rattle.conflict_learn.specs.declared.learning.Resolved.{Resolved}
use Rattle.search_steps.specs.Hints.{hints_from}
use Rattle.cdcl_search.specs.Tells.{IsId, IsLeft, with_events}
use Rattle.cdcl_search.proofs.Tellings.{holds_where}
use Rattle.cdcl_core.specs.Results.{RefutesIn}
use Rattle.cdcl_core.proofs.EndingLaws.{ends_refute, ended_is_left}
use Rattle.cdcl_core.proofs.HintIds.{resolved_ids}
use Rattle.cdcl_core.proofs.FailLaws.{none_left, left_is_told, left_is_unmet, left_fails}
use Rattle.cdcl_core.proofs.failing.fail.Goals as goal

pub trace-requires-clause-fails : goal.trace-requires-clause-fails
trace-requires-clause-fails g c = (c.args.failure.conflict.id, c.requires.fails)

pub hints_of_lesson-requires-clause-ids : goal.hints_of_lesson-requires-clause-ids
hints_of_lesson-requires-clause-ids g c = subst (λ rs. (r : Resolved) → Contains rs r → IsId r.id) (sym c.deref.ensures.value)
    (resolved_ids c.trace.new.log.formula.now c.args.state.now (g.P.ParityEngine.state c.args.engine.now) c.trace.new.rows (g.L.Sink.items c.trace.new.log.sink.now) c.in_ok-left.ensures.on.stands c.args.failure.conflict.lits c.in_ok-left.left.resolved.items c.in_ok-left.left.lits
    (c.in_ok-left.ensures.left c.args.failure.conflict.id c.requires.fails).final.follows)

pub tell_chained-requires-clause-going : goal.tell_chained-requires-clause-going
tell_chained-requires-clause-going g c = c.in_ok-left.ensures.on.log.failed ∙ c.requires.ready.going

pub tell_chained-requires-clause-right : goal.tell_chained-requires-clause-right
tell_chained-requires-clause-right g c =
    subst (λ (ls : List Literal). IsLeft c.trace.new.log.formula.now (with_events (Step (ClauseWithHints c.args.state.now.next (integers_of ls) c.in_ok-hints.hints) ∷ []) (g.L.Sink.items c.trace.new.log.sink.now))) (sym c.as_slice-clause.ensures)
    (ended_is_left c.args.state.now.tidies c.trace.new.log.formula.now c.args.state.now.conflicts (negations c.in_ok-left.left.lits) _ (left_is_told c.trace.new.log.formula.now c.args.state.now (g.P.ParityEngine.state c.args.engine.now) c.trace.new.rows (g.L.Sink.items c.trace.new.log.sink.now) c.in_ok-left.ensures.on.stands c.args.failure.conflict.lits c.args.failure.conflict.id c.args.failure.kept c.args.failure.below c.in_ok-left.left (c.in_ok-left.ensures.left c.args.failure.conflict.id c.requires.fails) c.in_ok-hints.hints (c.in_ok-hints.ensures ∙ ap (λ rs. hints_from rs ++ pos c.args.failure.conflict.id ∷ []) c.deref.ensures.value)))

pub returns-clause-none : goal.returns-clause-none
returns-clause-none g c = λ kept level. c.in_ok-failed.ensures ∙ ap negations c.as_slice-clause.ensures
    ∙ none_left c.trace.new.log.formula.now.constraints c.args.state.now c.args.failure.conflict.lits c.args.failure.conflict.id c.args.failure.kept c.args.failure.below c.trace.new.rows c.in_ok-left.left (c.in_ok-left.ensures.left c.args.failure.conflict.id c.requires.fails) c.in_ok-left.ensures.on.stands.3.trail.follows.sound kept level

pub returns-clause-ends : goal.returns-clause-ends
returns-clause-ends g c =
    let failed : c.in_ok-failed.failed ≡ negations c.in_ok-left.left.lits = c.in_ok-failed.ensures ∙ ap negations c.as_slice-clause.ensures in
    record {
      refutes = holds_where (λ formula told. RefutesIn c.args.state.now.tidies formula (c.args.state.now.conflicts + 1) told c.in_ok-failed.failed) (Step (ClauseWithHints c.args.state.now.next (integers_of c.as_slice-clause.result.now) c.in_ok-hints.hints) ∷ []) g.L.Sink c.trace.new.log _ (let u : Unit {0} = tt in Ok u)
          c.tell_chained.new.log c.in_ok-tell_chained.ensures.log c.in_ok-tell_chained.ensures.told
          (subst (λ (ls : List Literal). RefutesIn c.args.state.now.tidies c.trace.new.log.formula.now (c.args.state.now.conflicts + 1) (with_events (Step (ClauseWithHints c.args.state.now.next (integers_of ls) c.in_ok-hints.hints) ∷ []) (g.L.Sink.items c.trace.new.log.sink.now)) c.in_ok-failed.failed) (sym c.as_slice-clause.ensures)
          (subst (RefutesIn c.args.state.now.tidies c.trace.new.log.formula.now (c.args.state.now.conflicts + 1) (with_events (Step (ClauseWithHints c.args.state.now.next (integers_of c.in_ok-left.left.lits) c.in_ok-hints.hints) ∷ []) (g.L.Sink.items c.trace.new.log.sink.now))) (sym failed)
          (ends_refute c.args.state.now.tidies c.trace.new.log.formula.now c.args.state.now.conflicts (negations c.in_ok-left.left.lits) _ (left_is_unmet c.trace.new.log.formula.now c.args.state.now (g.P.ParityEngine.state c.args.engine.now) c.trace.new.rows (g.L.Sink.items c.trace.new.log.sink.now) c.in_ok-left.ensures.on.stands c.args.failure.conflict.lits c.args.failure.conflict.id c.args.failure.kept c.args.failure.below c.in_ok-left.left (c.in_ok-left.ensures.left c.args.failure.conflict.id c.requires.fails) c.in_ok-hints.hints (c.in_ok-hints.ensures ∙ ap (λ rs. hints_from rs ++ pos c.args.failure.conflict.id ∷ []) c.deref.ensures.value)) (left_fails c.trace.new.log.formula.now c.args.state.now (g.P.ParityEngine.state c.args.engine.now) c.trace.new.rows (g.L.Sink.items c.trace.new.log.sink.now) c.in_ok-left.ensures.on.stands c.args.failure.conflict.lits c.args.failure.conflict.id c.args.failure.kept c.args.failure.below c.in_ok-left.left (c.in_ok-left.ensures.left c.args.failure.conflict.id c.requires.fails) c.in_ok-hints.hints (c.in_ok-hints.ensures ∙ ap (λ rs. hints_from rs ++ pos c.args.failure.conflict.id ∷ []) c.deref.ensures.value)) c.in_ok-left.ensures.on.stands.1.log.apart (left_is_told c.trace.new.log.formula.now c.args.state.now (g.P.ParityEngine.state c.args.engine.now) c.trace.new.rows (g.L.Sink.items c.trace.new.log.sink.now) c.in_ok-left.ensures.on.stands c.args.failure.conflict.lits c.args.failure.conflict.id c.args.failure.kept c.args.failure.below c.in_ok-left.left (c.in_ok-left.ensures.left c.args.failure.conflict.id c.requires.fails) c.in_ok-hints.hints (c.in_ok-hints.ensures ∙ ap (λ rs. hints_from rs ++ pos c.args.failure.conflict.id ∷ []) c.deref.ensures.value)))));
      log = log_then g.L.Sink g.met.L.Sink.keeps_on _ c.trace.new.log _ _ c.in_ok-left.ensures.on.log c.in_ok-tell_chained.ensures.log;
    }

pub returns-in_err-tell_chained-clause-ends : goal.returns-in_err-tell_chained-clause-ends
returns-in_err-tell_chained-clause-ends g c =
    let fault = err_from_is_err_and c.from_residual-in_err-tell_chained.result c.from_residual-in_err-tell_chained.ensures.1 in
    rw (fault.1, fault.2) (record { refutes = tt; log = log_then g.L.Sink g.met.L.Sink.keeps_on _ c.trace.new.log _ _ c.in_ok-left.ensures.on.log c.in_err-tell_chained.ensures.log })

pub trace-requires-clause-ready : goal.trace-requires-clause-ready
trace-requires-clause-ready g c = c.requires.ready

pub trace-requires-clause-few_rows : goal.trace-requires-clause-few_rows
trace-requires-clause-few_rows g c = c.requires.told.1

pub hints_of_lesson-requires-clause-conflict : goal.hints_of_lesson-requires-clause-conflict
hints_of_lesson-requires-clause-conflict g c = c.requires.told.0

pub returns-clause-clear : goal.returns-clause-clear
returns-clause-clear g c = c.in_ok-left.ensures.on.clear
