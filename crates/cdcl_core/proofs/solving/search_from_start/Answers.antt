use Rattle.std.proofs.Common.{◌∙◌, sym, ap, subst, is_some, rules, arith}
use Rattle.cdcl_core.specs.Results.{Refutes}
use Rattle.cdcl_core.proofs.Answering.{unsat_is_known}
use Rattle.cdcl_core.proofs.CalmLines.{calm_is_in_time, calm_then, given_unmarked, no_line_is_calm, refuted_unmarked, refutes_either}
use Rattle.cdcl_core.proofs.ClashLaws.{clash_refutes}
use Rattle.cdcl_core.proofs.LogLineLaws.{goes_on_in, stops_in, then_in}
use Rattle.cdcl_search.specs.GoingOn.{log_then}
use Rattle.std.proofs.lemmas.Result.{err_from_is_err_and}
use Rattle.cdcl_core.proofs.solving.search_from_start.Goals as goal

pub all_parities-requires-clause-going : goal.all_parities-requires-clause-going
all_parities-requires-clause-going g c = c.in_ok-tell_originals.ensures.log.failed ∙ c.requires.going

pub fill_and_search-requires-clause-going : goal.fill_and_search-requires-clause-going
fill_and_search-requires-clause-going g c = c.in_ok-parities.ensures.log.failed ∙ c.in_ok-tell_originals.ensures.log.failed ∙ c.requires.going

pub fill_and_search-requires-clause-lines : goal.fill_and_search-requires-clause-lines
fill_and_search-requires-clause-lines g c = λ t.
    let given = log_then g.L.Sink g.met.L.Sink.keeps_on _ c.tell_originals.new.log _ _ c.in_ok-tell_originals.ensures.log c.in_ok-parities.ensures.log in
    calm_then g.L.Sink g.met.L.Sink.are_items g.met.L.Sink.gains_items c.args.log.now c.all_parities.new.log _ given
    (no_line_is_calm (g.L.Sink.lines c.args.log.now.sink.now) (c.requires.lines t)) (given_unmarked c.all_parities.new.log.formula.now _ (g.L.Sink.items c.all_parities.new.log.sink.now) c.in_ok-parities.ensures.given)

pub returns : goal.returns
returns g c =
    let given = log_then g.L.Sink g.met.L.Sink.keeps_on _ c.tell_originals.new.log _ _ c.in_ok-tell_originals.ensures.log c.in_ok-parities.ensures.log in
    record {
      answers = c.fill_and_search.ensures.answers;
      settled = c.fill_and_search.ensures.settled;
      tidied = c.fill_and_search.ensures.tidied;
      log = then_in g.L.Sink g.met.L.Sink.keeps_on g.met.L.Sink.keeps_else_on c.args.effort.tidies _ c.all_parities.new.log _ _ (goes_on_in g.L.Sink g.met.L.Sink.items_keep_else c.args.effort.tidies _ _ _ given) c.fill_and_search.ensures.log;
    }

pub returns-in_err-tell_originals : goal.returns-in_err-tell_originals
returns-in_err-tell_originals g c =
    let fault = err_from_is_err_and c.from_residual.result c.from_residual.ensures.1 in
    rw (fault.1, fault.2) (record { answers = tt; settled = λ s. tt; tidied = λ t. tt; log = goes_on_in g.L.Sink g.met.L.Sink.items_keep_else c.args.effort.tidies _ _ _ c.in_err-tell_originals.ensures.log })

pub returns-in_err-parities : goal.returns-in_err-parities
returns-in_err-parities g c =
    let fault = err_from_is_err_and c.from_residual-in_err-parities.result c.from_residual-in_err-parities.ensures.1 in
    let on = log_then g.L.Sink g.met.L.Sink.keeps_on _ c.tell_originals.new.log _ _ c.in_ok-tell_originals.ensures.log c.in_err-parities.ensures.log in
    rw (fault.1, fault.2) (record { answers = tt; settled = λ s. tt; tidied = λ t. tt; log = goes_on_in g.L.Sink g.met.L.Sink.items_keep_else c.args.effort.tidies _ _ _ on })

pub returns-in_err-filled : goal.returns-in_err-filled
returns-in_err-filled g c =
    let given = log_then g.L.Sink g.met.L.Sink.keeps_on _ c.tell_originals.new.log _ _ c.in_ok-tell_originals.ensures.log c.in_ok-parities.ensures.log in
    let fault = err_from_is_err_and c.from_residual-in_err-filled.result c.from_residual-in_err-filled.ensures.1 in
    rw (fault.1, fault.2) (record {
      answers = tt;
      settled = λ s. tt;
      tidied = λ t. tt;
      log = then_in g.L.Sink g.met.L.Sink.keeps_on g.met.L.Sink.keeps_else_on c.args.effort.tidies _ c.all_parities.new.log _ _ (goes_on_in g.L.Sink g.met.L.Sink.items_keep_else c.args.effort.tidies _ _ _ given)
          (stops_in g.L.Sink g.met.L.Sink.keeps_itself g.met.L.Sink.items_keep_else c.args.effort.tidies c.all_parities.new.log);
    })

pub returns-in-Some : goal.returns-in-Some
returns-in-Some g c =
    let told = g.L.Sink.items c.tell_originals.new.log.sink.now in
    let formula = c.tell_originals.new.log.formula.now in
    let tidies = c.args.effort.tidies in
    let clash = sym c.clash.ensures.some ∙ ap is_some c.in-Some.is in
    let least = rw c.in-Some.is at c.clash.ensures.least in
    let refutes = clash_refutes formula c.in-Some.variable 1 (omega arith) least clash told c.in_ok-tell_originals.ensures.begun in
    record {
      answers = refutes_either tidies formula c.args.effort.budget told _ (subst (Refutes formula c.args.effort.budget told) (search rules) (clash_refutes formula c.in-Some.variable c.args.effort.budget c.requires.budget.0 least clash told c.in_ok-tell_originals.ensures.begun));
      settled = λ s. (refutes_either tidies formula 1 told _ (subst (Refutes formula 1 told) (search rules) refutes), unsat_is_known _);
      tidied = λ t. calm_is_in_time 0 (g.L.Sink.lines c.tell_originals.new.log.sink.now) (calm_then g.L.Sink g.met.L.Sink.are_items g.met.L.Sink.gains_items c.args.log.now c.tell_originals.new.log _ c.in_ok-tell_originals.ensures.log
          (no_line_is_calm (g.L.Sink.lines c.args.log.now.sink.now) (c.requires.lines t)) (refuted_unmarked formula told _ refutes));
      log = goes_on_in g.L.Sink g.met.L.Sink.items_keep_else tidies _ _ _ c.in_ok-tell_originals.ensures.log;
    }

pub tell_originals-requires-clause-few : goal.tell_originals-requires-clause-few
tell_originals-requires-clause-few g c = c.requires.few

pub tell_originals-requires-clause-fresh : goal.tell_originals-requires-clause-fresh
tell_originals-requires-clause-fresh g c = c.requires.fresh

pub tell_originals-requires-clause-going : goal.tell_originals-requires-clause-going
tell_originals-requires-clause-going g c = c.requires.going

pub all_parities-requires-clause-begun : goal.all_parities-requires-clause-begun
all_parities-requires-clause-begun g c = c.in_ok-tell_originals.ensures.begun

pub fill_and_search-requires-clause-budget : goal.fill_and_search-requires-clause-budget
fill_and_search-requires-clause-budget g c = c.requires.budget

pub fill_and_search-requires-clause-given : goal.fill_and_search-requires-clause-given
fill_and_search-requires-clause-given g c = c.in_ok-parities.ensures.given

pub fill_and_search-requires-clause-engines : goal.fill_and_search-requires-clause-engines
fill_and_search-requires-clause-engines g c = c.in_ok-parities.ensures.engines
