use Rattle.std.proofs.lemmas.Result.{err_from_is_err_and}
use Rattle.std.proofs.Common.{◌≡◌, refl, subst, ℕ, ℤ, List, length, arith}
use Rattle.std.specs.Prelude.{IfOk}
use Rattle.xor_reason.specs.declared.reason.ReasonOf.{ReasonOf}
use Rattle.cdcl_search.specs.GoingOn.{log_stops}
use Rattle.cdcl_search.specs.declared.state.SearchState.{SearchState}
use Rattle.cdcl_search.specs.Ties.{first_row_id}
use Rattle.cdcl_search.proofs.LowIds.{has_ids, next_is_low, variables_are_few}
use Rattle.cdcl_core.specs.Shortening.{EndsByUnits}
use Rattle.cdcl_core.specs.declared.conflicts.LogEnd.{LogEnd}
use Rattle.cdcl_core.proofs.ShortLaws.{known_by, short_by}
use Rattle.cdcl_core.proofs.RefutedLaws.{on_answer}
use Rattle.cdcl_core.proofs.analyser.Analyser.end_by.Goals as goal

pub end_of_refuted-requires-clause-ids : goal.end_of_refuted-requires-clause-ids
end_of_refuted-requires-clause-ids g c = has_ids c.args.self.now.log.now.formula.now c.args.self.now.state.now (g.P.ParityEngine.state c.args.self.now.engine.now) c.args.rows.now (g.L.Sink.items c.args.self.now.log.now.sink.now) c.requires.at.stands

pub end_of_refuted-requires-clause-constraints : goal.end_of_refuted-requires-clause-constraints
end_of_refuted-requires-clause-constraints g c = c.requires.at.stands.3.ids.few

pub end_of_refuted-requires-clause-room : goal.end_of_refuted-requires-clause-room
end_of_refuted-requires-clause-room g c =
    let st = c.requires.at.stands in
    let vars = variables_are_few c.args.self.now.log.now.formula.now c.args.self.now.state.now (g.P.ParityEngine.state c.args.self.now.engine.now) (first_row_id c.args.self.now.state.now.next) c.args.rows.now st.0 st.3 in
    let few = st.3.log.few_rows in
    let is = c.len-count.ensures in
    (next_is_low c.args.self.now.log.now.formula.now c.args.self.now.state.now (g.P.ParityEngine.state c.args.self.now.engine.now) (first_row_id c.args.self.now.state.now.next) c.args.rows.now st.0 st.3, omega (arith, vars, few, is))

pub end_of_refuted-requires-clause-units : goal.end_of_refuted-requires-clause-units
end_of_refuted-requires-clause-units g c = c.requires.at.stands.3.units.few

pub end_of_refuted-requires-clause-known : goal.end_of_refuted-requires-clause-known
end_of_refuted-requires-clause-known g c = let st = c.requires.at.stands in known_by c.args.self.now.log.now.formula.now c.args.self.now.state.now (g.P.ParityEngine.state c.args.self.now.engine.now) c.args.rows.now st.0 st.1 st.3 c.args.reason.now c.requires.reason

pub end_of_refuted-requires-clause-short : goal.end_of_refuted-requires-clause-short
end_of_refuted-requires-clause-short g c = let st = c.requires.at.stands in short_by c.args.self.now.log.now.formula.now c.args.self.now.state.now (g.P.ParityEngine.state c.args.self.now.engine.now) c.args.rows.now st.0 st.1 st.3 c.args.reason.now c.requires.reason

pub end_of_refuted-requires-clause-sources : goal.end_of_refuted-requires-clause-sources
end_of_refuted-requires-clause-sources g c = (length (g.P.ParityEngine.state c.args.self.now.engine.now).parities, c.requires.at.stands.3.engine.few, c.requires.reason.numbers)

pub tell_ending-requires-clause-going : goal.tell_ending-requires-clause-going
tell_ending-requires-clause-going g c = c.requires.at.going

-- by the number of the rows, which is their length
counted : (state : SearchState) (constraints count rows : ℕ) (reason : ReasonOf) (hints : List ℤ) (ending : LogEnd) → count ≡ rows → EndsByUnits state constraints count reason hints ending → EndsByUnits state constraints rows reason hints ending
counted state constraints count rows reason hints ending same ends = subst (λ n. EndsByUnits state constraints n reason hints ending) same ends

pub tell_ending-requires-clause-ends : goal.tell_ending-requires-clause-ends
tell_ending-requires-clause-ends g c = c.requires.ends.ends c.in_ok-ending.ending (counted _ _ _ _ _ _ _ c.len-count.ensures c.in_ok-ending.ensures)

pub returns : goal.returns
returns g c = record {
  ends = c.tell_ending.ensures.ends;
  none = subst (λ none. IfOk c.tell_ending.result (λ failed. failed ≡ none)) (c.requires.ends.none c.in_ok-ending.ending (counted _ _ _ _ _ _ _ c.len-count.ensures c.in_ok-ending.ensures)) c.tell_ending.ensures.failed;
  clear = on_answer c.tell_ending.result c.requires.at.clear;
  lent = record { state = refl; engine = refl; log = refl; marks = refl };
}

pub returns-in_err-ending : goal.returns-in_err-ending
returns-in_err-ending g c =
    let fault = err_from_is_err_and c.from_residual.result c.from_residual.ensures.1 in
    rw (fault.1, fault.2) (record {
      ends = record { refutes = tt; log = log_stops g.L.Sink g.met.L.Sink.keeps_itself c.args.self.now.log.now };
      none = tt;
      clear = tt;
      lent = record { state = refl; engine = refl; log = refl; marks = refl };
    })
