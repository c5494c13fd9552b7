use Rattle.std.proofs.Common.{refl, ap, ◌∙◌, ◌++◌, ◌∷◌, []}
use Rattle.std.specs.Prelude.{slice_index_or}
use Rattle.cdcl_search.proofs.RowReasons.{is_named, is_clause_of_row, own_assigned, own_gives, own_written}
use Rattle.cdcl_search.proofs.row_clauses.row_clause.Goals as goal

pub row_parity-requires : goal.row_parity-requires
row_parity-requires g c = is_named c.args.trail.now (g.P.ParityEngine.state c.args.engine.now) c.args.literal c.args.row c.requires.reason

pub clause_in_place-clause-requires-clause-written : goal.clause_in_place-clause-requires-clause-written
clause_in_place-clause-requires-clause-written g c = own_written c.args.trail.now (g.P.ParityEngine.state c.args.engine.now) c.args.literal c.args.row c.requires.reason c.in_ok-lits.lits c.in_ok-lits.ensures

pub clause_in_place-clause-requires-clause-assigned : goal.clause_in_place-clause-requires-clause-assigned
clause_in_place-clause-requires-clause-assigned g c = own_assigned c.args.trail.now (g.P.ParityEngine.state c.args.engine.now) c.args.literal c.args.row c.requires.reason c.in_ok-lits.lits c.in_ok-lits.ensures

pub clause_in_place-clause-requires-clause-kind : goal.clause_in_place-clause-requires-clause-kind
clause_in_place-clause-requires-clause-kind g c = own_gives c.args.trail.now (g.P.ParityEngine.state c.args.engine.now) c.args.literal c.args.row c.requires.reason c.in_ok-lits.lits c.in_ok-lits.ensures

pub returns : goal.returns
returns g c =
    let lits = c.in_ok-lits.lits in
    let first = ap (λ xs. slice_index_or xs 0 []) (c.push.ensures ∙ ap (λ xs. xs ++ lits ∷ []) c.new-parity.ensures) in
    is_clause_of_row c.args.trail.now (g.P.ParityEngine.state c.args.engine.now) c.args.literal c.args.row c.requires.reason lits c.in_ok-lits.ensures _ refl first c.clause_in_place-clause.ensures
