use Rattle.std.proofs.Common.{refl, sym, [], length, ap, ◌∙◌}
use Rattle.std.proofs.lemmas.List.{length-map}
use Rattle.std.proofs.lemmas.Result.{err_from_is_err_and}
use Rattle.cx_trail.specs.Renaming.{renamed}
use Rattle.cx_trail.specs.Sequence.{TrailState}
use Rattle.cdcl_search.specs.declared.state.SearchState.{SearchState}
use Rattle.cdcl_search.specs.GoingOn.{log_stops, log_then}
use Rattle.cdcl_core.proofs.schedule.reduce_where_many.Goals as goal

pub returns : goal.returns
returns g c =
    let same = c.in_ok-compact.ensures.compacted.1.others in
    record {
      searches_on = record {
        stands = c.in_ok-compact.ensures.stands c.reduce.new.log.formula.now (g.P.ParityEngine.state c.args.engine.now) [] (g.L.Sink.items c.reduce.new.log.sink.now) c.in_ok-reduce.ensures.searches_on.stands;
        conflicts = ap (λ (k : SearchState). k.conflicts) same ∙ c.reduce.ensures.searches_on.conflicts;
        tidies = ap (λ (k : SearchState). k.tidies) same ∙ c.reduce.ensures.searches_on.tidies;
        log = c.in_ok-reduce.ensures.searches_on.log;
      };
      level = ap (λ (k : SearchState). k.trail.level) same ∙ ap (λ (t : TrailState). t.level) c.reduce.ensures.trail;
      variables = ap (λ (k : SearchState). k.trail.variables) same ∙ ap (λ (t : TrailState). t.variables) c.reduce.ensures.trail;
      units = λ were. ap (λ (k : SearchState). length k.units.items) same ∙ c.in_ok-reduce.ensures.units ∙ sym (length-map c.reduce.new.state.trail.entries (renamed c.in_ok-compact.ensures.compacted.0)) ∙ sym (ap (λ (k : SearchState). length k.trail.entries) same);
    }

pub returns-in_err-chosen : goal.returns-in_err-chosen
returns-in_err-chosen g c =
    let fault = err_from_is_err_and c.from_residual.result c.from_residual.ensures.1 in
    rw (fault.1, fault.2) (record { searches_on = record { stands = tt; conflicts = refl; tidies = refl; log = log_stops g.L.Sink g.met.L.Sink.keeps_itself c.args.log.now }; level = refl; variables = refl; units = λ were. tt })

pub returns-in_err-reduce : goal.returns-in_err-reduce
returns-in_err-reduce g c =
    let fault = err_from_is_err_and c.from_residual-in_err-reduce.result c.from_residual-in_err-reduce.ensures.1 in
    rw (fault.1, fault.2) (record {
      searches_on = record { stands = tt; conflicts = c.reduce.ensures.searches_on.conflicts; tidies = c.reduce.ensures.searches_on.tidies; log = c.in_err-reduce.ensures.searches_on.log };
      level = ap (λ (t : TrailState). t.level) c.reduce.ensures.trail;
      variables = ap (λ (t : TrailState). t.variables) c.reduce.ensures.trail;
      units = λ were. tt;
    })

pub returns-in_err-compact : goal.returns-in_err-compact
returns-in_err-compact g c =
    let fault = err_from_is_err_and c.from_residual-in_err-compact.result c.from_residual-in_err-compact.ensures.1 in
    let same = c.in_err-compact.ensures.same in
    rw (fault.1, fault.2) (record {
      searches_on = record {
        stands = tt;
        conflicts = ap (λ (k : SearchState). k.conflicts) same ∙ c.reduce.ensures.searches_on.conflicts;
        tidies = ap (λ (k : SearchState). k.tidies) same ∙ c.reduce.ensures.searches_on.tidies;
        log = log_then g.L.Sink g.met.L.Sink.keeps_on _ c.reduce.new.log _ _ c.in_ok-reduce.ensures.searches_on.log (log_stops g.L.Sink g.met.L.Sink.keeps_itself c.reduce.new.log);
      };
      level = ap (λ (k : SearchState). k.trail.level) same ∙ ap (λ (t : TrailState). t.level) c.reduce.ensures.trail;
      variables = ap (λ (k : SearchState). k.trail.variables) same ∙ ap (λ (t : TrailState). t.variables) c.reduce.ensures.trail;
      units = λ were. tt;
    })
