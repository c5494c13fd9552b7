use Rattle.cdcl_search.specs.GoingOn.{log_then}
use Rattle.std.proofs.lemmas.Result.{err_from_is_err_and}
use Rattle.std.proofs.Common.{refl}
use Rattle.cdcl_core.proofs.analyser.Analyser.refute_clause.Goals as goal

pub returns : goal.returns
returns g c = record {
  ends = record { refutes = c.refute_by.ensures.ends.refutes; log = log_then g.L.Sink g.met.L.Sink.keeps_on _ c.conflict_clause.new.log _ _ c.in_ok-conflict.ensures.concludes_on.log c.refute_by.ensures.ends.log };
  none = c.refute_by.ensures.none;
  clear = c.refute_by.ensures.clear;
  lent = record { state = c.refute_by.ensures.lent.state; engine = c.refute_by.ensures.lent.engine; log = c.refute_by.ensures.lent.log; marks = c.refute_by.ensures.lent.marks };
}

pub conflict_clause-requires-clause-stands : goal.conflict_clause-requires-clause-stands
conflict_clause-requires-clause-stands g c = c.requires.at.stands

pub conflict_clause-requires-clause-found : goal.conflict_clause-requires-clause-found
conflict_clause-requires-clause-found g c = c.requires.found

pub conflict_clause-requires-clause-going : goal.conflict_clause-requires-clause-going
conflict_clause-requires-clause-going g c = c.requires.at.going

pub returns-in_err-conflict : goal.returns-in_err-conflict
returns-in_err-conflict g c =
    let fault = err_from_is_err_and c.from_residual.result c.from_residual.ensures.1 in
    rw (fault.1, fault.2) (record { ends = record { refutes = tt; log = c.in_err-conflict.ensures.concludes_on.log }; none = tt; clear = tt; lent = record { state = refl; engine = refl; log = refl; marks = refl } })
