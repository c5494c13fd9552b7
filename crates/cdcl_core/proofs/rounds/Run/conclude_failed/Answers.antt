use Rattle.std.proofs.Common.{◌∙◌, refl, sym, subst, Some, rules}
use Rattle.std.proofs.lemmas.Result.{err_from_is_err_and}
use Rattle.cx_base.specs.Problem.{Problem}
use Rattle.cdcl_search.specs.GoingOn.{log_then}
use Rattle.cdcl_core.specs.Failing.{EndsAtPlace}
use Rattle.cdcl_core.proofs.FailLaws.{failed_ends_at}
use Rattle.cdcl_core.proofs.rounds.Run.conclude_failed.Goals as goal

pub end-requires-clause-going : goal.end-requires-clause-going
end-requires-clause-going g c = c.in_ok-conclusion.ensures.log.failed ∙ c.requires.searches.going

pub refute_conflict-requires-clause-conflict : goal.refute_conflict-requires-clause-conflict
refute_conflict-requires-clause-conflict g c = (c.is_refuted.ensures.refuted c.if-is_refuted.true).conflict

pub refute_conflict-requires-clause-ready : goal.refute_conflict-requires-clause-ready
refute_conflict-requires-clause-ready g c = record { stands = c.requires.searches.stands; clear = c.requires.searches.clear; going = c.requires.searches.going }

pub refute_conflict-requires-clause-level : goal.refute_conflict-requires-clause-level
refute_conflict-requires-clause-level g c = (c.is_refuted.ensures.refuted c.if-is_refuted.true).level

pub returns-then-is_refuted-clause-none : goal.returns-then-is_refuted-clause-none
returns-then-is_refuted-clause-none g c = λ level conflict. c.refute_conflict.ensures.none

pub returns-clause-ends : goal.returns-clause-ends
returns-clause-ends g c =
    let ends = c.end.ensures.ends in
    record {
      ends = record { refutes = ends.ends.refutes; log = log_then g.L.Sink g.met.L.Sink.keeps_on _ c.clause_against.new.log _ _ c.in_ok-conclusion.ensures.log ends.ends.log };
      clear = ends.clear;
      same = record { log = ends.same.log; state = ends.same.state; engine = ends.same.engine; budget = ends.same.budget };
    }

pub returns-then-is_refuted-clause-ends : goal.returns-then-is_refuted-clause-ends
returns-then-is_refuted-clause-ends g c = record { ends = c.refute_conflict.ensures.ends; clear = c.refute_conflict.ensures.clear; same = record { log = refl; state = refl; engine = refl; budget = refl } }

pub returns-in_err-conclusion : goal.returns-in_err-conclusion
returns-in_err-conclusion g c =
    let fault = err_from_is_err_and c.from_residual.result c.from_residual.ensures.1 in
    rw (fault.1, fault.2) (record { ends = record { ends = record { refutes = tt; log = c.in_err-conclusion.ensures.log }; clear = tt; same = record { log = refl; state = refl; engine = refl; budget = refl } }; none = λ level conflict. tt })

pub returns-clause-none : goal.returns-clause-none
returns-clause-none g c = λ level conflict. absurd (c.is_refuted.ensures.other c.if-is_refuted.false (record { conflict = conflict; level = level }))

pub end-requires-clause-at : goal.end-requires-clause-at
end-requires-clause-at g c =
    let p = c.requires.place in
    subst (λ (f : Problem). EndsAtPlace f.constraints c.args.self.now.state.now.trail (Some c.entry-literal.result.literal) c.args.place) (sym c.in_ok-conclusion.ensures.log.formula)
    (subst (λ l. EndsAtPlace c.args.self.now.log.now.formula.now.constraints c.args.self.now.state.now.trail (Some l) c.args.place) (search rules)
    (failed_ends_at c.args.self.now.log.now.formula.now.constraints c.args.assumptions.now c.args.self.now.state.now.trail c.requires.searches.keeps c.requires.searches.stands.3.trail.follows.sound c.args.place p.0 p.1 p.2))

pub refute_conflict-requires-clause-found : goal.refute_conflict-requires-clause-found
refute_conflict-requires-clause-found g c = c.requires.found

pub clause_against-requires-clause-stands : goal.clause_against-requires-clause-stands
clause_against-requires-clause-stands g c = c.requires.searches.stands

pub clause_against-requires-clause-place : goal.clause_against-requires-clause-place
clause_against-requires-clause-place g c = c.requires.place.1

pub clause_against-requires-clause-keeps : goal.clause_against-requires-clause-keeps
clause_against-requires-clause-keeps g c = c.requires.searches.keeps

pub clause_against-requires-clause-contradicts : goal.clause_against-requires-clause-contradicts
clause_against-requires-clause-contradicts g c = c.requires.place.2

pub clause_against-requires-clause-going : goal.clause_against-requires-clause-going
clause_against-requires-clause-going g c = c.requires.searches.going

pub end-requires-clause-clear : goal.end-requires-clause-clear
end-requires-clause-clear g c = c.requires.searches.clear
