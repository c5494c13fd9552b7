use Rattle.std.proofs.lemmas.Result.{err_from_is_err_and}
use Rattle.std.proofs.Common.{◌≡◌, ◌∙◌, refl, sym, ap, subst, true, pos, Some, [], ◌∷◌, ◌++◌, length, filter, Contains}
use Rattle.cx_base.specs.Assumptions.{is_ending}
use Rattle.cx_base.specs.Problem.{Problem}
use Rattle.xor_reason.specs.declared.reason.ReasonOf.{ReasonOf}
use Rattle.cdcl_search.specs.Explaining.{Explains}
use Rattle.conflict_learn.specs.declared.learning.Resolved.{Resolved}
use Rattle.search_steps.specs.Hints.{hints_from}
use Rattle.cdcl_search.specs.GoingOn.{log_then, log_stops}
use Rattle.cdcl_search.specs.Tells.{IsId}
use Rattle.cdcl_core.specs.Concluding.{EndsByHints}
use Rattle.cdcl_core.specs.Refuting.{is_told, IsFirst, IsHeldBeside, IsUntold}
use Rattle.cdcl_core.proofs.BesideLaws.{beside_ends_by, beside_hints, conflict_is_held, live_or, named_or, reason_explains, still_sourced, told_are_ids}
use Rattle.cdcl_core.proofs.LateLaws.{follows_nothing}
use Rattle.cdcl_core.proofs.analyser.Analyser.refute_beside.Goals as goal

pub trace_all-requires-clause-ready : goal.trace_all-requires-clause-ready
trace_all-requires-clause-ready g c = record { stands = c.requires.at.stands; clear = c.requires.at.clear; going = c.requires.at.going }

pub trace_all-requires-clause-few_rows : goal.trace_all-requires-clause-few_rows
trace_all-requires-clause-few_rows g c = c.requires.told.1

pub trace_all-requires-clause-false_now : goal.trace_all-requires-clause-false_now
trace_all-requires-clause-false_now g c = c.requires.conflict.all_false

pub trace_all-requires-clause-first : goal.trace_all-requires-clause-first
trace_all-requires-clause-first g c = c.requires.first

pub hints_of_told-requires-clause-ids : goal.hints_of_told-requires-clause-ids
hints_of_told-requires-clause-ids g c = subst (λ rs. (r : Resolved) → Contains (filter is_told rs) r → IsId r.id) (sym c.deref.ensures.value)
    (told_are_ids c.trace_all.new.log.formula.now c.args.self.now.state.now (g.P.ParityEngine.state c.args.self.now.engine.now) c.trace_all.new.rows (g.L.Sink.items c.trace_all.new.log.sink.now) c.in_ok-traced.ensures.on.stands c.requires.at.level c.in_ok-traced.traced.resolved.items c.args.first.now c.args.conflict.now.lits (follows_nothing c.args.self.now.state.now.trail c.in_ok-traced.ensures.on.stands.3.trail.follows.sound c.requires.at.level c.args.conflict.now.lits (IsHeldBeside c.args.self.now.state.now c.trace_all.new.rows c.args.first.now) c.in_ok-traced.traced.resolved.items c.in_ok-traced.traced.lits c.in_ok-traced.ensures.left))

pub hints_of_told-requires-clause-conflict : goal.hints_of_told-requires-clause-conflict
hints_of_told-requires-clause-conflict g c = c.requires.told.0

pub reason_of-requires : goal.reason_of-requires
reason_of-requires g c = c.requires.some

pub end_by-requires-clause-at : goal.end_by-requires-clause-at
end_by-requires-clause-at g c = record {
  stands = c.in_ok-traced.ensures.on.stands;
  level = c.requires.at.level;
  clear = c.in_ok-traced.ensures.on.clear;
  going = c.in_ok-traced.ensures.on.log.failed ∙ c.requires.at.going;
}

pub end_by-requires-clause-reason : goal.end_by-requires-clause-reason
end_by-requires-clause-reason g c =
    let row = c.requires.some.0 in
    let ending = subst (IsFirst c.args.self.now.log.now.formula.now.constraints c.args.self.now.state.now (g.P.ParityEngine.state c.args.self.now.engine.now)) c.requires.some.1 c.requires.first in
    subst (Explains (g.P.ParityEngine.state c.args.self.now.engine.now).parities c.args.self.now.state.now.trail) (sym (c.reason_of.ensures row c.requires.some.1)) (reason_explains (g.P.ParityEngine.state c.args.self.now.engine.now).parities c.args.self.now.state.now.trail (Some row.literal) row.reason ending.row.reason)

pub end_by-requires-clause-ends : goal.end_by-requires-clause-ends
end_by-requires-clause-ends g c =
    let st = c.in_ok-traced.ensures.on.stands in
    let f = (follows_nothing c.args.self.now.state.now.trail c.in_ok-traced.ensures.on.stands.3.trail.follows.sound c.requires.at.level c.args.conflict.now.lits (IsHeldBeside c.args.self.now.state.now c.trace_all.new.rows c.args.first.now) c.in_ok-traced.traced.resolved.items c.in_ok-traced.traced.lits c.in_ok-traced.ensures.left) in
    let held = c.in_ok-traced.ensures.held c.args.conflict.now.lits c.args.conflict.now.id (conflict_is_held c.args.self.now.state.now c.args.conflict.now.rows c.args.first.now c.args.conflict.now.lits c.args.conflict.now.id c.requires.at.stands.3.trail.follows.sound c.requires.conflict) in
    let row = c.requires.some.0 in
    let ending = subst (IsFirst c.args.self.now.log.now.formula.now.constraints c.args.self.now.state.now (g.P.ParityEngine.state c.args.self.now.engine.now)) c.requires.some.1 c.requires.first in
    let reason = row.reason in
    let hints = c.in_ok-hints.hints in
    subst (λ (r : ReasonOf). EndsByHints c.trace_all.new.log.formula.now c.args.self.now.state.now (g.L.Sink.items c.trace_all.new.log.sink.now) (length c.trace_all.new.rows) r hints) (sym (c.reason_of.ensures row c.requires.some.1))
    (beside_ends_by c.trace_all.new.log.formula.now c.args.self.now.state.now (g.P.ParityEngine.state c.args.self.now.engine.now) c.trace_all.new.rows (g.L.Sink.items c.trace_all.new.log.sink.now) st c.requires.at.level c.in_ok-traced.traced.resolved.items c.args.first.now c.args.conflict.now.lits f reason (λ d is. subst (λ first. IsUntold first d) c.requires.some.1 is)
    (live_or st.0.moment.tables.clauses reason.clause c.args.conflict.now.lits c.args.conflict.now.id (named_or c.trace_all.new.log.formula.now c.args.self.now.state.now (g.P.ParityEngine.state c.args.self.now.engine.now) c.trace_all.new.rows (g.L.Sink.items c.trace_all.new.log.sink.now) st c.requires.at.level c.in_ok-traced.traced.resolved.items c.args.first.now reason.clause (λ d is. subst (λ first. IsUntold first d) c.requires.some.1 is) c.args.conflict.now.lits c.args.conflict.now.id held))
    (reason_explains (g.P.ParityEngine.state c.args.self.now.engine.now).parities c.args.self.now.state.now.trail (Some row.literal) reason ending.row.reason)
    (subst (λ (f : Problem). is_ending f.constraints reason.clause ≡ true) (sym c.in_ok-traced.ensures.on.log.formula) ending.row.ending)
    hints
    (beside_hints c.trace_all.new.log.formula.now c.args.self.now.state.now (g.P.ParityEngine.state c.args.self.now.engine.now) c.trace_all.new.rows (g.L.Sink.items c.trace_all.new.log.sink.now) st c.requires.at.level c.in_ok-traced.traced.resolved.items c.args.first.now reason.clause (λ d is. subst (λ first. IsUntold first d) c.requires.some.1 is) c.args.conflict.now.lits c.args.conflict.now.id
    (still_sourced c.args.self.now.state.now c.trace_all.new.rows c.args.first.now c.args.conflict.now.lits c.args.conflict.now.id c.requires.told.0 held).0 f
    hints (c.in_ok-hints.ensures ∙ ap (λ rs. hints_from (filter is_told rs) ++ pos c.args.conflict.now.id ∷ []) c.deref.ensures.value)))

pub returns : goal.returns
returns g c =
    let told = c.end_by.ensures in
    record {
      ends = record { refutes = told.ends.refutes; log = log_then g.L.Sink g.met.L.Sink.keeps_on _ c.trace_all.new.log _ _ c.in_ok-traced.ensures.on.log told.ends.log };
      none = told.none;
      clear = told.clear;
      lent = record { state = told.lent.state; engine = told.lent.engine; log = told.lent.log; marks = told.lent.marks };
    }

pub returns-in_err-traced : goal.returns-in_err-traced
returns-in_err-traced g c =
    let fault = err_from_is_err_and c.from_residual.result c.from_residual.ensures.1 in
    rw (fault.1, fault.2) (record { ends = record { refutes = tt; log = c.in_err-traced.ensures.on.log }; none = tt; clear = tt; lent = record { state = refl; engine = refl; log = refl; marks = refl } })

pub returns-in_err-hints : goal.returns-in_err-hints
returns-in_err-hints g c =
    let fault = err_from_is_err_and c.from_residual-in_err-hints.result c.from_residual-in_err-hints.ensures.1 in
    rw (fault.1, fault.2) (record { ends = record { refutes = tt; log = log_then g.L.Sink g.met.L.Sink.keeps_on _ c.trace_all.new.log _ _ c.in_ok-traced.ensures.on.log (log_stops g.L.Sink g.met.L.Sink.keeps_itself c.trace_all.new.log) }; none = tt; clear = tt; lent = record { state = refl; engine = refl; log = refl; marks = refl } })
