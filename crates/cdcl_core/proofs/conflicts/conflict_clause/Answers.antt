use Rattle.std.proofs.Common.{rules, [], sym, subst, ◌∙◌, None}
use Rattle.cdcl_search.proofs.LowIds.{has_ids}
use Rattle.cdcl_search.specs.Tells.{IsId}
use Rattle.cdcl_core.specs.Concluding.{Concludes, IsByClause, IsOfClause}
use Rattle.cdcl_core.proofs.ConflictLaws.{found_concludes}
use Rattle.cdcl_core.proofs.conflicts.conflict_clause.Goals as goal

pub returns-in_ok-stored-in-Clause-clause-by_clause : goal.returns-in_ok-stored-in-Clause-clause-by_clause
returns-in_ok-stored-in-Clause-clause-by_clause g c = λ h. subst IsByClause (sym c.of_stored.ensures.1) tt

pub returns-in-Row-clause-by_clause : goal.returns-in-Row-clause-by_clause
returns-in-Row-clause-by_clause g c = λ h. absurd (subst IsOfClause c.in-Row.is h)

pub returns-in_ok-stored-in-Clause-clause-concludes_on : goal.returns-in_ok-stored-in-Clause-clause-concludes_on
returns-in_ok-stored-in-Clause-clause-concludes_on g c =
    let k = c.of_stored.ensures in
    let e = g.P.ParityEngine.state c.args.engine.now in
    let told = g.L.Sink.items c.args.log.now.sink.now in
    record {
      concludes = subst (Concludes c.args.log.now.formula.now c.args.state.now e told None) (sym k.1)
          (found_concludes c.args.log.now.formula.now c.args.state.now e told c.requires.stands c.args.found c.in-Clause.reference c.in-Clause.is c.requires.found
          k.0 (k.2 ∙ c.in_ok-stored-in-Clause.ensures.lits) (k.3 ∙ c.in_ok-stored-in-Clause.ensures.is) k.4 (subst IsId (sym k.3) c.in_ok-stored-in-Clause.ensures.id));
      log = search rules;
    }

pub stored-requires-clause-ids : goal.stored-requires-clause-ids
stored-requires-clause-ids g c = has_ids c.args.log.now.formula.now c.args.state.now (g.P.ParityEngine.state c.args.engine.now) [] (g.L.Sink.items c.args.log.now.sink.now) c.requires.stands

pub of_row-requires-clause-stands : goal.of_row-requires-clause-stands
of_row-requires-clause-stands g c = c.requires.stands

pub of_row-requires-clause-going : goal.of_row-requires-clause-going
of_row-requires-clause-going g c = c.requires.going
