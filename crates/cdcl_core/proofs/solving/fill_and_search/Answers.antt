use Rattle.std.proofs.Common.{sym, subst, ◌∙◌, []}
use Rattle.cdcl_core.specs.Results.{AnswersTo, RefutesIn}
use Rattle.cdcl_core.proofs.LogLineLaws.{goes_on_in, stops_in, then_in}
use Rattle.std.proofs.lemmas.Result.{err_from_is_err_and}
use Rattle.cdcl_core.proofs.Answering.{refutes_within, unsat_is_known}
use Rattle.cdcl_core.proofs.CalmLines.{begun_unmarked, calm_is_in_time, calm_then, refuted_unmarked}
use Rattle.cdcl_core.proofs.solving.fill_and_search.Goals as goal

pub search-requires-clause-begins : goal.search-requires-clause-begins
search-requires-clause-begins g c = let begins = rw c.in-Some.is at c.in_ok-engine.ensures.begins in begins.0

pub search-requires-clause-going : goal.search-requires-clause-going
search-requires-clause-going g c = c.in_ok-engine.ensures.log.failed ∙ c.requires.going

pub search-requires-clause-lines : goal.search-requires-clause-lines
search-requires-clause-lines g c = λ t.
    let begins = rw c.in-Some.is at c.in_ok-engine.ensures.begins in
    calm_then g.L.Sink g.met.L.Sink.are_items g.met.L.Sink.gains_items c.args.log.now c.start.new.log _ c.in_ok-engine.ensures.log (c.requires.lines (sym begins.1 ∙ t)) (begun_unmarked c.start.new.log.formula.now _ _ _ begins.0)

pub returns-in-Some : goal.returns-in-Some
returns-in-Some g c =
    let begins = rw c.in-Some.is at c.in_ok-engine.ensures.begins in
    let searched : AnswersTo g.L.Sink c.args.effort.tidies c.args.effort.budget c.start.new.log c.search.result c.search.new.log =
    subst (λ b. AnswersTo g.L.Sink b c.args.effort.budget c.start.new.log c.search.result c.search.new.log) begins.1 c.search.ensures in
    record {
      answers = searched.answers;
      settled = searched.settled;
      tidied = searched.tidied;
      log = then_in g.L.Sink g.met.L.Sink.keeps_on g.met.L.Sink.keeps_else_on c.args.effort.tidies _ c.start.new.log _ _ (goes_on_in g.L.Sink g.met.L.Sink.items_keep_else c.args.effort.tidies _ _ _ c.in_ok-engine.ensures.log) searched.log;
    }

pub returns-in-None : goal.returns-in-None
returns-in-None g c =
    let none = c.from_vec.ensures ∙ c.new.ensures.items in
    let told = g.L.Sink.items c.start.new.log.sink.now in
    let formula = c.start.new.log.formula.now in
    let tidies = c.args.effort.tidies in
    let ends : RefutesIn tidies formula 1 told [] = rw c.in-None.is at c.in_ok-engine.ensures.begins in
    let refutes : RefutesIn tidies formula 1 told c.from_vec.result = subst (RefutesIn tidies formula 1 told) (sym none) ends in
    record {
      answers = refutes_within formula 1 c.args.effort.budget told c.from_vec.result c.requires.budget.0 refutes;
      settled = λ s. (refutes, unsat_is_known c.from_vec.result);
      tidied = λ t. calm_is_in_time 0 (g.L.Sink.lines c.start.new.log.sink.now)
          (calm_then g.L.Sink g.met.L.Sink.are_items g.met.L.Sink.gains_items c.args.log.now c.start.new.log _ c.in_ok-engine.ensures.log (c.requires.lines t) (refuted_unmarked formula told c.from_vec.result refutes));
      log = goes_on_in g.L.Sink g.met.L.Sink.items_keep_else tidies _ _ _ c.in_ok-engine.ensures.log;
    }

pub returns-in_err-engine : goal.returns-in_err-engine
returns-in_err-engine g c =
    let fault = err_from_is_err_and c.from_residual-in_err-engine.result c.from_residual-in_err-engine.ensures.1 in
    rw (fault.1, fault.2) (record { answers = tt; settled = λ s. tt; tidied = λ t. tt; log = goes_on_in g.L.Sink g.met.L.Sink.items_keep_else c.args.effort.tidies _ _ _ c.in_err-engine.ensures.log })

pub returns-in_err-fill : goal.returns-in_err-fill
returns-in_err-fill g c =
    let fault = err_from_is_err_and c.from_residual.result c.from_residual.ensures.1 in
    rw (fault.1, fault.2) (record { answers = tt; settled = λ s. tt; tidied = λ t. tt; log = stops_in g.L.Sink g.met.L.Sink.keeps_itself g.met.L.Sink.items_keep_else c.args.effort.tidies c.args.log.now })
