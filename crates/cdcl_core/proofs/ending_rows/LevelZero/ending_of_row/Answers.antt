use Rattle.std.proofs.Common.{◌∙◌, sym, ap}
use Rattle.cx_base.specs.Assumptions.{assumes, is_ending}
use Rattle.cx_base.specs.Literals.{negate}
use Rattle.cdcl_search.proofs.RowReasons.{is_named, all_assigned, gives_literal, is_antecedent}
use Rattle.cdcl_core.proofs.BesideLaws.{literal_goes_on, row_goes_on, row_implied, row_reason, the_row}
use Rattle.cdcl_core.proofs.ending_rows.LevelZero.ending_of_row.Goals as goal

pub reason_clause-requires-clause-named : goal.reason_clause-requires-clause-named
reason_clause-requires-clause-named g c = is_named c.args.self.now.state.now.trail (g.P.ParityEngine.state c.args.self.now.engine.now) c.args.literal c.args.row (row_implied c.args.self.now.state.now (g.P.ParityEngine.state c.args.self.now.engine.now) c.requires.reasons c.args.place c.requires.implied.late c.requires.implied.within c.args.literal c.requires.implied.is c.args.row c.requires.implied.reason)

pub reason_clause-requires-clause-assigned : goal.reason_clause-requires-clause-assigned
reason_clause-requires-clause-assigned g c = all_assigned c.args.self.now.state.now.trail (g.P.ParityEngine.state c.args.self.now.engine.now) c.args.literal c.args.row (row_implied c.args.self.now.state.now (g.P.ParityEngine.state c.args.self.now.engine.now) c.requires.reasons c.args.place c.requires.implied.late c.requires.implied.within c.args.literal c.requires.implied.is c.args.row c.requires.implied.reason)

pub reason_clause-requires-clause-kind : goal.reason_clause-requires-clause-kind
reason_clause-requires-clause-kind g c = gives_literal c.args.self.now.state.now.trail (g.P.ParityEngine.state c.args.self.now.engine.now) c.args.literal c.args.row (row_implied c.args.self.now.state.now (g.P.ParityEngine.state c.args.self.now.engine.now) c.requires.reasons c.args.place c.requires.implied.late c.requires.implied.within c.args.literal c.requires.implied.is c.args.row c.requires.implied.reason)

pub returns-then-not-assumes-clause-none : goal.returns-then-not-assumes-clause-none
returns-then-not-assumes-clause-none g c = λ _. literal_goes_on c.args.self.now.formula.now.constraints c.args.self.now.state.now (g.P.ParityEngine.state c.args.self.now.engine.now) c.args.place
    (ap (λ l. assumes c.args.self.now.formula.now.constraints (negate l)) c.requires.implied.is ∙ ap (assumes c.args.self.now.formula.now.constraints) (sym c.negate.ensures) ∙ sym c.assumes.ensures ∙ c.if-not-assumes.true)

pub returns-then-not-is_ending-clause-none : goal.returns-then-not-is_ending-clause-none
returns-then-not-is_ending-clause-none g c = λ _. row_goes_on c.args.self.now.state.now (g.P.ParityEngine.state c.args.self.now.engine.now) c.requires.reasons c.args.place c.requires.implied.late c.requires.implied.within c.args.literal c.requires.implied.is c.args.row c.requires.implied.reason c.in_ok-reason.reason c.in_ok-reason.ensures.parity c.in_ok-reason.ensures.numbers c.in_ok-reason.ensures.sum c.in_ok-reason.ensures.clause c.args.self.now.formula.now.constraints c.requires.sound
    (ap (is_ending c.args.self.now.formula.now.constraints) (sym c.as_slice.ensures) ∙ sym c.is_ending.ensures ∙ c.if-not-is_ending.true)

pub returns-clause-some : goal.returns-clause-some
returns-clause-some g c = record {
  is = c.requires.implied.is;
  reason = ((the_row c.args.self.now.state.now (g.P.ParityEngine.state c.args.self.now.engine.now) c.requires.reasons c.args.place c.requires.implied.late c.requires.implied.within c.args.literal c.requires.implied.is c.args.row c.requires.implied.reason c.in_ok-reason.reason c.in_ok-reason.ensures.parity c.in_ok-reason.ensures.numbers c.in_ok-reason.ensures.sum c.in_ok-reason.ensures.clause).form, row_reason c.args.self.now.state.now (g.P.ParityEngine.state c.args.self.now.engine.now) c.requires.reasons c.args.place c.requires.implied.late c.requires.implied.within c.args.literal c.requires.implied.is c.args.row c.requires.implied.reason c.in_ok-reason.reason c.in_ok-reason.ensures.parity c.in_ok-reason.ensures.numbers c.in_ok-reason.ensures.sum c.in_ok-reason.ensures.clause);
  implied = is_antecedent c.args.self.now.state.now.trail (g.P.ParityEngine.state c.args.self.now.engine.now) c.args.literal c.args.row (row_implied c.args.self.now.state.now (g.P.ParityEngine.state c.args.self.now.engine.now) c.requires.reasons c.args.place c.requires.implied.late c.requires.implied.within c.args.literal c.requires.implied.is c.args.row c.requires.implied.reason) c.in_ok-reason.reason c.in_ok-reason.ensures.parity c.in_ok-reason.ensures.numbers c.in_ok-reason.ensures.sum c.in_ok-reason.ensures.clause c.requires.sound;
  ending = ap (is_ending c.args.self.now.formula.now.constraints) (sym c.as_slice.ensures) ∙ sym c.is_ending.ensures ∙ c.if-not-is_ending.false;
}
