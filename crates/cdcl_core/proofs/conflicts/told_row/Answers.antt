use Rattle.std.proofs.Common.{arith, sym, ap, ◌∙◌, subst, ◌++◌, ◌∷◌, [], length}
use Rattle.cdcl_search.specs.Ties.{SearchStands}
use Rattle.cdcl_search.proofs.LowIds.{next_is_id, next_is_low}
use Rattle.cdcl_core.proofs.conflicts.told_row.Goals as goal

pub tell_reason-requires-clause-stands : goal.tell_reason-requires-clause-stands
tell_reason-requires-clause-stands g c =
    subst (λ rows. SearchStands c.args.log.now.formula.now c.args.state.now (g.P.ParityEngine.state c.args.engine.now) rows (g.L.Sink.items c.args.log.now.sink.now)) (sym c.new-rows.ensures) c.requires.stands

pub tell_reason-requires-clause-room : goal.tell_reason-requires-clause-room
tell_reason-requires-clause-room g c = let none = ap length c.new-rows.ensures in omega (arith, none)

pub first_id_of_rows-requires : goal.first_id_of_rows-requires
first_id_of_rows-requires g c = next_is_id c.args.log.now.formula.now c.args.state.now (g.P.ParityEngine.state c.args.engine.now) _ [] c.requires.stands.0 c.requires.stands.3

pub returns-in-Ok-clause-told : goal.returns-in-Ok-clause-told
returns-in-Ok-clause-told g c =
    let rows = c.in-Ok.ensures.rows ∙ ap (λ rows. rows ++ c.args.reason.clause ∷ []) c.new-rows.ensures in
    record {
      lits = c.in-Ok.ensures.clause;
      id = c.first_id_of_rows.ensures;
      rows = rows;
      told = (
        let low = next_is_low c.args.log.now.formula.now c.args.state.now (g.P.ParityEngine.state c.args.engine.now) _ [] c.requires.stands.0 c.requires.stands.3 in
            let is = c.first_id_of_rows.ensures in (omega (arith, is), omega (arith, is, low)),
        let long = ap length rows in omega (arith, long),
      );
    }

pub returns-in-Ok-clause-stands : goal.returns-in-Ok-clause-stands
returns-in-Ok-clause-stands g c =
    subst (λ rows. SearchStands c.tell_reason.new.log.formula.now c.args.state.now (g.P.ParityEngine.state c.args.engine.now) rows (g.L.Sink.items c.tell_reason.new.log.sink.now)) (sym c.in-Ok.ensures.rows) c.in-Ok.ensures.stands_on.stands

pub returns-in-Ok-clause-log : goal.returns-in-Ok-clause-log
returns-in-Ok-clause-log g c = c.in-Ok.ensures.stands_on.log

pub returns-in-Err-clause-log : goal.returns-in-Err-clause-log
returns-in-Err-clause-log g c = c.in-Err.ensures.stands_on.log
