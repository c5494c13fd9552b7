use Rattle.std.proofs.Common.{ap, None, is_some, refl}
use Rattle.std.proofs.lemmas.Result.{err_from_is_err_and}
use Rattle.cdcl_search.specs.GoingOn.{log_stops}
use Rattle.cdcl_core.proofs.BesideLaws.{clash_reason}
use Rattle.cdcl_core.proofs.ConflictLaws.{against}
use Rattle.cdcl_core.proofs.analyser.Analyser.refute_row.Goals as goal

pub reason_clause-requires-clause-named : goal.reason_clause-requires-clause-named
reason_clause-requires-clause-named g c = ap is_some (against c.args.self.now.log.now.formula.now c.args.self.now.state.now (g.P.ParityEngine.state c.args.self.now.engine.now) (g.L.Sink.items c.args.self.now.log.now.sink.now) c.requires.at.stands c.args.row None c.requires.clash).is

pub reason_clause-requires-clause-assigned : goal.reason_clause-requires-clause-assigned
reason_clause-requires-clause-assigned g c = (against c.args.self.now.log.now.formula.now c.args.self.now.state.now (g.P.ParityEngine.state c.args.self.now.engine.now) (g.L.Sink.items c.args.self.now.log.now.sink.now) c.requires.at.stands c.args.row None c.requires.clash).assigned

pub reason_clause-requires-clause-kind : goal.reason_clause-requires-clause-kind
reason_clause-requires-clause-kind g c = (against c.args.self.now.log.now.formula.now c.args.self.now.state.now (g.P.ParityEngine.state c.args.self.now.engine.now) (g.L.Sink.items c.args.self.now.log.now.sink.now) c.requires.at.stands c.args.row None c.requires.clash).kind

pub refute_row_beside-requires-clause-reason : goal.refute_row_beside-requires-clause-reason
refute_row_beside-requires-clause-reason g c = clash_reason c.args.self.now.log.now.formula.now c.args.self.now.state.now (g.P.ParityEngine.state c.args.self.now.engine.now) (g.L.Sink.items c.args.self.now.log.now.sink.now) c.requires.at.stands c.args.row c.requires.clash c.in_ok-reason.reason c.in_ok-reason.ensures.parity c.in_ok-reason.ensures.numbers c.in_ok-reason.ensures.sum c.in_ok-reason.ensures.clause

pub refute_row_alone-requires-clause-reason : goal.refute_row_alone-requires-clause-reason
refute_row_alone-requires-clause-reason g c = clash_reason c.args.self.now.log.now.formula.now c.args.self.now.state.now (g.P.ParityEngine.state c.args.self.now.engine.now) (g.L.Sink.items c.args.self.now.log.now.sink.now) c.requires.at.stands c.args.row c.requires.clash c.in_ok-reason.reason c.in_ok-reason.ensures.parity c.in_ok-reason.ensures.numbers c.in_ok-reason.ensures.sum c.in_ok-reason.ensures.clause

pub returns-in_err-reason : goal.returns-in_err-reason
returns-in_err-reason g c =
    let fault = err_from_is_err_and c.from_residual.result c.from_residual.ensures.1 in
    rw (fault.1, fault.2) (record { ends = record { refutes = tt; log = log_stops g.L.Sink g.met.L.Sink.keeps_itself c.args.self.now.log.now }; none = tt; clear = tt; lent = record { state = refl; engine = refl; log = refl; marks = refl } })

pub refute_row_beside-requires-clause-at : goal.refute_row_beside-requires-clause-at
refute_row_beside-requires-clause-at g c = c.requires.at

pub refute_row_beside-requires-clause-first : goal.refute_row_beside-requires-clause-first
refute_row_beside-requires-clause-first g c = c.requires.first

pub refute_row_alone-requires-clause-at : goal.refute_row_alone-requires-clause-at
refute_row_alone-requires-clause-at g c = c.requires.at

pub refute_row_alone-requires-clause-first : goal.refute_row_alone-requires-clause-first
refute_row_alone-requires-clause-first g c = c.requires.first
