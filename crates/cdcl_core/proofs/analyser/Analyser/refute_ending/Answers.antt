use Rattle.std.proofs.lemmas.Result.{err_from_is_err_and}
use Rattle.std.proofs.Common.{◌≡◌, ◌∙◌, refl, sym, ap, subst, true, None, [], length, inr, Contains, arith}
use Rattle.cx_base.specs.Assumptions.{is_ending}
use Rattle.cx_base.specs.Problem.{Problem}
use Rattle.conflict_learn.specs.Learning.{Follows}
use Rattle.conflict_learn.specs.declared.learning.Resolved.{Resolved}
use Rattle.search_steps.specs.Hints.{hints_from}
use Rattle.cdcl_search.specs.GoingOn.{log_then, log_stops}
use Rattle.cdcl_search.specs.Tells.{IsId}
use Rattle.cdcl_core.specs.Refuting.{IsHeldBeside}
use Rattle.cdcl_core.proofs.BesideLaws.{beside_ends_by, ending_hints, follows_sourced, reason_explains}
use Rattle.cdcl_core.proofs.HintIds.{resolved_ids}
use Rattle.cdcl_core.proofs.LateLaws.{follows_nothing}
use Rattle.cdcl_core.proofs.analyser.Analyser.refute_ending.Goals as goal

pub trace_all-requires-clause-ready : goal.trace_all-requires-clause-ready
trace_all-requires-clause-ready g c = record { stands = c.requires.at.stands; clear = c.requires.at.clear; going = c.requires.at.going }

pub trace_all-requires-clause-first : goal.trace_all-requires-clause-first
trace_all-requires-clause-first g c = c.requires.first

pub trace_all-requires-clause-few_rows : goal.trace_all-requires-clause-few_rows
trace_all-requires-clause-few_rows g c = let none = ap length c.requires.rows in omega (arith, none)

pub trace_all-requires-clause-false_now : goal.trace_all-requires-clause-false_now
trace_all-requires-clause-false_now g c = c.requires.reason.1.clause.are_false

pub hints_of_resolved-requires : goal.hints_of_resolved-requires
hints_of_resolved-requires g c = subst (λ rs. (r : Resolved) → Contains rs r → IsId r.id) (sym c.deref.ensures.value)
    (resolved_ids c.trace_all.new.log.formula.now c.args.self.now.state.now (g.P.ParityEngine.state c.args.self.now.engine.now) c.trace_all.new.rows (g.L.Sink.items c.trace_all.new.log.sink.now) c.in_ok-traced.ensures.on.stands c.args.reason.now.clause c.in_ok-traced.traced.resolved.items []
    (follows_sourced c.args.self.now.state.now c.trace_all.new.rows c.args.reason.now.clause c.in_ok-traced.traced.resolved.items [] (subst (λ first. Follows c.args.self.now.state.now.trail c.args.reason.now.clause (IsHeldBeside c.args.self.now.state.now c.trace_all.new.rows first) c.in_ok-traced.traced.resolved.items []) c.requires.none
    (follows_nothing c.args.self.now.state.now.trail c.in_ok-traced.ensures.on.stands.3.trail.follows.sound c.requires.at.level c.args.reason.now.clause (IsHeldBeside c.args.self.now.state.now c.trace_all.new.rows c.args.first.now) c.in_ok-traced.traced.resolved.items c.in_ok-traced.traced.lits c.in_ok-traced.ensures.left))))

pub end_by-requires-clause-at : goal.end_by-requires-clause-at
end_by-requires-clause-at g c = record {
  stands = c.in_ok-traced.ensures.on.stands;
  level = c.requires.at.level;
  clear = c.in_ok-traced.ensures.on.clear;
  going = c.in_ok-traced.ensures.on.log.failed ∙ c.requires.at.going;
}

pub end_by-requires-clause-reason : goal.end_by-requires-clause-reason
end_by-requires-clause-reason g c = reason_explains (g.P.ParityEngine.state c.args.self.now.engine.now).parities c.args.self.now.state.now.trail None c.args.reason.now c.requires.reason

pub end_by-requires-clause-ends : goal.end_by-requires-clause-ends
end_by-requires-clause-ends g c =
    let st = c.in_ok-traced.ensures.on.stands in
    let f = (subst (λ first. Follows c.args.self.now.state.now.trail c.args.reason.now.clause (IsHeldBeside c.args.self.now.state.now c.trace_all.new.rows first) c.in_ok-traced.traced.resolved.items []) c.requires.none
    (follows_nothing c.args.self.now.state.now.trail c.in_ok-traced.ensures.on.stands.3.trail.follows.sound c.requires.at.level c.args.reason.now.clause (IsHeldBeside c.args.self.now.state.now c.trace_all.new.rows c.args.first.now) c.in_ok-traced.traced.resolved.items c.in_ok-traced.traced.lits c.in_ok-traced.ensures.left)) in
    let hints = c.from_vec-hints.result in
    beside_ends_by c.trace_all.new.log.formula.now c.args.self.now.state.now (g.P.ParityEngine.state c.args.self.now.engine.now) c.trace_all.new.rows (g.L.Sink.items c.trace_all.new.log.sink.now) st c.requires.at.level c.in_ok-traced.traced.resolved.items None c.args.reason.now.clause f c.args.reason.now (λ d never. absurd never) (inr refl)
    (reason_explains (g.P.ParityEngine.state c.args.self.now.engine.now).parities c.args.self.now.state.now.trail None c.args.reason.now c.requires.reason)
    (subst (λ (f : Problem). is_ending f.constraints c.args.reason.now.clause ≡ true) (sym c.in_ok-traced.ensures.on.log.formula) c.requires.ending)
    hints
    (ending_hints c.trace_all.new.log.formula.now c.args.self.now.state.now (g.P.ParityEngine.state c.args.self.now.engine.now) c.trace_all.new.rows (g.L.Sink.items c.trace_all.new.log.sink.now) st c.requires.at.level c.in_ok-traced.traced.resolved.items c.args.reason.now.clause f hints (c.from_vec-hints.ensures ∙ c.in_ok-hints_of_resolved.ensures.hints ∙ ap hints_from c.deref.ensures.value))

pub returns : goal.returns
returns g c =
    let told = c.end_by.ensures in
    record {
      ends = record { refutes = told.ends.refutes; log = log_then g.L.Sink g.met.L.Sink.keeps_on _ c.trace_all.new.log _ _ c.in_ok-traced.ensures.on.log told.ends.log };
      none = told.none;
      clear = told.clear;
      lent = record { state = told.lent.state; engine = told.lent.engine; log = told.lent.log; marks = told.lent.marks };
    }

pub returns-in_err-traced : goal.returns-in_err-traced
returns-in_err-traced g c =
    let fault = err_from_is_err_and c.from_residual.result c.from_residual.ensures.1 in
    rw (fault.1, fault.2) (record { ends = record { refutes = tt; log = c.in_err-traced.ensures.on.log }; none = tt; clear = tt; lent = record { state = refl; engine = refl; log = refl; marks = refl } })

pub returns-in_err-hints_of_resolved : goal.returns-in_err-hints_of_resolved
returns-in_err-hints_of_resolved g c =
    let fault = err_from_is_err_and c.from_residual-in_err-hints_of_resolved.result c.from_residual-in_err-hints_of_resolved.ensures.1 in
    rw (fault.1, fault.2) (record { ends = record { refutes = tt; log = log_then g.L.Sink g.met.L.Sink.keeps_on _ c.trace_all.new.log _ _ c.in_ok-traced.ensures.on.log (log_stops g.L.Sink g.met.L.Sink.keeps_itself c.trace_all.new.log) }; none = tt; clear = tt; lent = record { state = refl; engine = refl; log = refl; marks = refl } })
