use Rattle.std.proofs.Common.{◌≡◌, ◌≤◌, ◌∙◌, sym, subst, rules}
use Rattle.cx_base.specs.declared.literal.TheConstants.{MAX_VARIABLE}
use Rattle.cdcl_core.proofs.LogLineLaws.{stops_in}
use Rattle.cdcl_core.proofs.RaisedScores.{order_raised}
use Rattle.std.proofs.lemmas.Result.{err_from_is_err_and}
use Rattle.cdcl_core.specs.Results.{AnswersTo}
use Rattle.cdcl_core.proofs.solving.search.Goals as goal

pub prefer_free-requires-clause-few : goal.prefer_free-requires-clause-few
prefer_free-requires-clause-few g c = subst (λ n. n ≤ MAX_VARIABLE) (sym c.vars-vars.ensures.variables) c.vars-vars.ensures.within.0

pub prefer_free-requires-clause-same : goal.prefer_free-requires-clause-same
prefer_free-requires-clause-same g c =
    let ties = c.requires.begins.stands.3 in
    c.vars-vars.ensures.variables ∙ sym (ties.trail.stand.variables ∙ ties.trail.variables)

pub prefer_free-requires-clause-engine : goal.prefer_free-requires-clause-engine
prefer_free-requires-clause-engine g c = c.vars-vars.ensures.variables ∙ sym c.requires.begins.stands.3.engine.vars

pub search_in_rounds-requires-clause-begins : goal.search_in_rounds-requires-clause-begins
search_in_rounds-requires-clause-begins g c =
    let begins = c.requires.begins in
    let raised = c.in_ok-prefer_free.ensures in
    record {
      stands = order_raised c.args.log.now.formula.now c.args.state.now (g.P.ParityEngine.state c.args.engine.now) (g.L.Sink.items c.args.log.now.sink.now) begins.stands
          c.prefer_free.new.order raised.standing raised.scores;
      unbroken = begins.unbroken;
      level = begins.level;
      none = begins.none;
    }

pub returns : goal.returns
returns g c =
    let same : c.log-1.given.0 ≡ c.search_in_rounds.new.self.log.now = search rules in
    subst (AnswersTo g.L.Sink c.args.state.now.tidies c.args.budget c.args.log.now c.search_in_rounds.result) (sym same) c.search_in_rounds.ensures.answers

pub returns-in_err-prefer_free : goal.returns-in_err-prefer_free
returns-in_err-prefer_free g c =
    let fault = err_from_is_err_and c.from_residual.result c.from_residual.ensures.1 in
    rw (fault.1, fault.2) (record { answers = tt; settled = λ s. tt; tidied = λ t. tt; log = stops_in g.L.Sink g.met.L.Sink.keeps_itself g.met.L.Sink.items_keep_else c.args.state.now.tidies c.args.log.now })
