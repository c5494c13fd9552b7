use Rattle.std.proofs.Common.{sym, subst, Some}
use Rattle.cx_trail.specs.Sequence.{TrailState}
use Rattle.cx_trail.specs.declared.entry.Reason.TheVariants as reasons
use Rattle.xor_reason.specs.ReasonClause.{AreAssigned, IsReasonFor}
use Rattle.xor_reason.proofs.EventLaws.{implied_on_pushed, conflict_on_trail}
use Rattle.parity_tests.proofs.reasons.reason_of_next.Goals as goal

pub reason_clause-requires-clause-assigned : goal.reason_clause-requires-clause-assigned
reason_clause-requires-clause-assigned g c n is =
    let state = g.P.ParityEngine.state in
    let trail = c.args.trail.now in
    subst (λ (t : TrailState). AreAssigned t n.form) (sym c.imply.ensures.pushed)
    (implied_on_pushed (state c.args.engine.now) (state c.next_event.new.self) c.in-Implied.row c.in-Implied.literal n trail trail.level (reasons.Row c.in-Implied.row) c.requires c.in-Implied.ensures is).0

pub reason_clause-requires-clause-kind : goal.reason_clause-requires-clause-kind
reason_clause-requires-clause-kind g c n is =
    let state = g.P.ParityEngine.state in
    let trail = c.args.trail.now in
    subst (λ (t : TrailState). IsReasonFor t (Some c.in-Implied.literal) n.form) (sym c.imply.ensures.pushed)
    (implied_on_pushed (state c.args.engine.now) (state c.next_event.new.self) c.in-Implied.row c.in-Implied.literal n trail trail.level (reasons.Row c.in-Implied.row) c.requires c.in-Implied.ensures is).1

pub reason_clause-requires-in-Conflict-clause-assigned : goal.reason_clause-requires-in-Conflict-clause-assigned
reason_clause-requires-in-Conflict-clause-assigned g c n is =
    let state = g.P.ParityEngine.state in
    (conflict_on_trail (state c.args.engine.now) (state c.next_event.new.self) c.in-Conflict.row n c.args.trail.now c.requires c.in-Conflict.ensures is).0

pub reason_clause-requires-in-Conflict-clause-kind : goal.reason_clause-requires-in-Conflict-clause-kind
reason_clause-requires-in-Conflict-clause-kind g c n is =
    let state = g.P.ParityEngine.state in
    (conflict_on_trail (state c.args.engine.now) (state c.next_event.new.self) c.in-Conflict.row n c.args.trail.now c.requires c.in-Conflict.ensures is).1
