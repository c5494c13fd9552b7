use Rattle.std.proofs.Common.{◌≡◌, ◌∙◌, ap, sym, subst, pos, [], ◌∷◌, ◌++◌, Contains, refl}
use Rattle.std.proofs.lemmas.Result.{err_from_is_err_and}
use Rattle.conflict_learn.specs.Learning.{Follows}
use Rattle.conflict_learn.specs.declared.learning.Resolved.{Resolved}
use Rattle.search_steps.specs.Hints.{hints_from}
use Rattle.cdcl_search.specs.GoingOn.{log_then, log_stops}
use Rattle.cdcl_search.specs.Tells.{IsId}
use Rattle.cdcl_core.specs.Results.{RefutesIn}
use Rattle.cdcl_core.specs.Refuting.{IsHeldBeside}
use Rattle.cdcl_core.proofs.BesideLaws.{conflict_is_held, follows_sourced, still_sourced, told_refutes}
use Rattle.cdcl_core.proofs.HintIds.{resolved_ids}
use Rattle.cdcl_core.proofs.LateLaws.{follows_nothing}
use Rattle.cdcl_core.proofs.analyser.Analyser.refute_told.Goals as goal

pub trace_all-requires-clause-ready : goal.trace_all-requires-clause-ready
trace_all-requires-clause-ready g c = record { stands = c.requires.at.stands; clear = c.requires.at.clear; going = c.requires.at.going }

pub trace_all-requires-clause-few_rows : goal.trace_all-requires-clause-few_rows
trace_all-requires-clause-few_rows g c = c.requires.told.1

pub trace_all-requires-clause-false_now : goal.trace_all-requires-clause-false_now
trace_all-requires-clause-false_now g c = c.requires.conflict.all_false

pub hints_of_lesson-requires-clause-ids : goal.hints_of_lesson-requires-clause-ids
hints_of_lesson-requires-clause-ids g c = subst (λ rs. (r : Resolved) → Contains rs r → IsId r.id) (sym c.deref.ensures.value)
    (resolved_ids c.trace_all.new.log.formula.now c.args.self.now.state.now (g.P.ParityEngine.state c.args.self.now.engine.now) c.trace_all.new.rows (g.L.Sink.items c.trace_all.new.log.sink.now) c.in_ok-traced.ensures.on.stands c.args.conflict.now.lits c.in_ok-traced.traced.resolved.items []
    (follows_sourced c.args.self.now.state.now c.trace_all.new.rows c.args.conflict.now.lits c.in_ok-traced.traced.resolved.items [] (subst (λ first. Follows c.args.self.now.state.now.trail c.args.conflict.now.lits (IsHeldBeside c.args.self.now.state.now c.trace_all.new.rows first) c.in_ok-traced.traced.resolved.items []) c.requires.none
    (follows_nothing c.args.self.now.state.now.trail c.in_ok-traced.ensures.on.stands.3.trail.follows.sound c.requires.at.level c.args.conflict.now.lits (IsHeldBeside c.args.self.now.state.now c.trace_all.new.rows c.args.first.now) c.in_ok-traced.traced.resolved.items c.in_ok-traced.traced.lits c.in_ok-traced.ensures.left))))

pub hints_of_lesson-requires-clause-conflict : goal.hints_of_lesson-requires-clause-conflict
hints_of_lesson-requires-clause-conflict g c = c.requires.told.0

pub tell_empty-requires-clause-shown : goal.tell_empty-requires-clause-shown
tell_empty-requires-clause-shown g c =
    let held = c.in_ok-traced.ensures.held c.args.conflict.now.lits c.args.conflict.now.id (conflict_is_held c.args.self.now.state.now c.args.conflict.now.rows c.args.first.now c.args.conflict.now.lits c.args.conflict.now.id c.requires.at.stands.3.trail.follows.sound c.requires.conflict) in
    told_refutes c.trace_all.new.log.formula.now c.args.self.now.state.now (g.P.ParityEngine.state c.args.self.now.engine.now) c.trace_all.new.rows (g.L.Sink.items c.trace_all.new.log.sink.now) c.in_ok-traced.ensures.on.stands c.requires.at.level c.in_ok-traced.traced.resolved.items c.args.conflict.now.lits c.args.conflict.now.id
    (still_sourced c.args.self.now.state.now c.trace_all.new.rows c.args.first.now c.args.conflict.now.lits c.args.conflict.now.id c.requires.told.0 held).0 (subst (λ first. Follows c.args.self.now.state.now.trail c.args.conflict.now.lits (IsHeldBeside c.args.self.now.state.now c.trace_all.new.rows first) c.in_ok-traced.traced.resolved.items []) c.requires.none
    (follows_nothing c.args.self.now.state.now.trail c.in_ok-traced.ensures.on.stands.3.trail.follows.sound c.requires.at.level c.args.conflict.now.lits (IsHeldBeside c.args.self.now.state.now c.trace_all.new.rows c.args.first.now) c.in_ok-traced.traced.resolved.items c.in_ok-traced.traced.lits c.in_ok-traced.ensures.left))
    c.in_ok-hints.hints (c.in_ok-hints.ensures ∙ ap (λ rs. hints_from rs ++ pos c.args.conflict.now.id ∷ []) c.deref.ensures.value)

pub tell_empty-requires-clause-going : goal.tell_empty-requires-clause-going
tell_empty-requires-clause-going g c = c.in_ok-traced.ensures.on.log.failed ∙ c.requires.at.going

pub returns : goal.returns
returns g c =
    let none : c.from_vec.result ≡ [] = c.from_vec.ensures ∙ c.new.ensures.items in
    record {
      ends = record {
        refutes = subst (RefutesIn c.args.self.now.state.now.tidies c.tell_empty.new.log.formula.now _ _) (sym none) c.in_ok-tell_empty.ensures.refutes;
        log = log_then g.L.Sink g.met.L.Sink.keeps_on _ c.trace_all.new.log _ _ c.in_ok-traced.ensures.on.log c.in_ok-tell_empty.ensures.log;
      };
      none = none;
      clear = c.in_ok-traced.ensures.on.clear;
      lent = record { state = refl; engine = refl; log = refl; marks = refl };
    }

pub returns-in_err-traced : goal.returns-in_err-traced
returns-in_err-traced g c =
    let fault = err_from_is_err_and c.from_residual.result c.from_residual.ensures.1 in
    rw (fault.1, fault.2) (record { ends = record { refutes = tt; log = c.in_err-traced.ensures.on.log }; none = tt; clear = tt; lent = record { state = refl; engine = refl; log = refl; marks = refl } })

pub returns-in_err-hints : goal.returns-in_err-hints
returns-in_err-hints g c =
    let fault = err_from_is_err_and c.from_residual-in_err-hints.result c.from_residual-in_err-hints.ensures.1 in
    rw (fault.1, fault.2) (record { ends = record { refutes = tt; log = log_then g.L.Sink g.met.L.Sink.keeps_on _ c.trace_all.new.log _ _ c.in_ok-traced.ensures.on.log (log_stops g.L.Sink g.met.L.Sink.keeps_itself c.trace_all.new.log) }; none = tt; clear = tt; lent = record { state = refl; engine = refl; log = refl; marks = refl } })

pub returns-in_err-tell_empty : goal.returns-in_err-tell_empty
returns-in_err-tell_empty g c =
    let fault = err_from_is_err_and c.from_residual-in_err-tell_empty.result c.from_residual-in_err-tell_empty.ensures.1 in
    rw (fault.1, fault.2) (record { ends = record { refutes = tt; log = log_then g.L.Sink g.met.L.Sink.keeps_on _ c.trace_all.new.log _ _ c.in_ok-traced.ensures.on.log c.in_err-tell_empty.ensures.log }; none = tt; clear = tt; lent = record { state = refl; engine = refl; log = refl; marks = refl } })
