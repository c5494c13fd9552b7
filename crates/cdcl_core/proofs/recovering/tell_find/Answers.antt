use Rattle.std.proofs.Common.{◌≡◌, sym, ap, ◌∙◌, ◌+◌, ◌∷◌, ◌++◌, [], subst, length, arith}
use Rattle.cx_base.specs.Integers.{integers_of}
use Rattle.cx_base.specs.declared.steps.LogEvent.TheVariants.{Step}
use Rattle.cx_base.specs.declared.steps.LogStep.TheVariants.{ParityOfClauses}
use Rattle.cdcl_search.specs.Tells.{IsLeft, with_events}
use Rattle.cdcl_search.proofs.Tellings.{holds_told}
use Rattle.cdcl_core.specs.Given.{HasGiven}
use Rattle.cdcl_core.proofs.GivenLaws.{find_has_given, given_is_left, judged_are_ids}
use Rattle.cdcl_search.specs.GoingOn.{log_stops, log_then}
use Rattle.std.proofs.lemmas.Result.{err_from_is_err_and}
use Rattle.cdcl_core.proofs.recovering.tell_find.Goals as goal

pub step_of-requires-clause-clauses : goal.step_of-requires-clause-clauses
step_of-requires-clause-clauses g c = judged_are_ids c.args.log.now.formula.now c.args.find.now c.requires.few c.requires.find.judged

pub tell_step-requires-clause-right : goal.tell_step-requires-clause-right
tell_step-requires-clause-right g c =
    let formula = c.args.log.now.formula.now in
    let own = c.args.parities.now.items in
    let find = c.args.find.now in
    let told = g.L.Sink.items c.args.log.now.sink.now in
    let step = ParityOfClauses (length own + 1) (integers_of find.parity) find.clauses in
    let is : c.in_ok-step.step ≡ step = c.in_ok-step.ensures.is ∙ ap (λ n. ParityOfClauses (n + 1) (integers_of find.parity) find.clauses) (let is = c.len.ensures in let ok = c.args.parities.now.ok.0 in let count : c.len.result ≡ length own = omega (arith, is, ok) in count) in
    subst (λ st. IsLeft formula (with_events (Step st ∷ []) told)) (sym is)
    (given_is_left formula (own ++ find.parity ∷ []) (with_events (Step step ∷ []) told) (find_has_given formula own told c.requires.given find c.requires.find.within c.requires.find.judged))

pub returns-clause-given : goal.returns-clause-given
returns-clause-given g c =
    let formula = c.args.log.now.formula.now in
    let own = c.args.parities.now.items in
    let find = c.args.find.now in
    let told = g.L.Sink.items c.args.log.now.sink.now in
    let step = ParityOfClauses (length own + 1) (integers_of find.parity) find.clauses in
    let is : c.in_ok-step.step ≡ step = c.in_ok-step.ensures.is ∙ ap (λ n. ParityOfClauses (n + 1) (integers_of find.parity) find.clauses) (let is = c.len.ensures in let ok = c.args.parities.now.ok.0 in let count : c.len.result ≡ length own = omega (arith, is, ok) in count) in
    let more : c.push.new.self.items ≡ own ++ find.parity ∷ [] = c.in_ok-push.ensures.items ∙ ap (λ x. own ++ x ∷ []) (c.in_ok-parity.ensures ∙ c.as_slice.ensures) in
    let has = holds_told (λ f t. HasGiven f (own ++ find.parity ∷ []) t) (Step step ∷ []) g.L.Sink c.args.log.now _ c.tell_step.new.log c.in_ok-tell_step.ensures.log
    (c.in_ok-tell_step.ensures.told ∙ ap (λ st. with_events (Step st ∷ []) told) is) (find_has_given formula own told c.requires.given find c.requires.find.within c.requires.find.judged) in
    subst (λ ps. HasGiven c.tell_step.new.log.formula.now ps (g.L.Sink.items c.tell_step.new.log.sink.now)) (sym more) has

pub returns-clause-one_more : goal.returns-clause-one_more
returns-clause-one_more g c = c.in_ok-push.ensures.items ∙ ap (λ x. c.args.parities.now.items ++ x ∷ []) (c.in_ok-parity.ensures ∙ c.as_slice.ensures)

pub returns-clause-log : goal.returns-clause-log
returns-clause-log g c = c.in_ok-tell_step.ensures.log

pub returns-in_err-parity : goal.returns-in_err-parity
returns-in_err-parity g c =
    let fault = err_from_is_err_and c.from_residual.result c.from_residual.ensures.1 in
    rw (fault.1, fault.2) (record { given = tt; one_more = tt; log = log_stops g.L.Sink g.met.L.Sink.keeps_itself c.args.log.now })

pub returns-in_err-step : goal.returns-in_err-step
returns-in_err-step g c =
    let fault = err_from_is_err_and c.from_residual-in_err-step.result c.from_residual-in_err-step.ensures.1 in
    rw (fault.1, fault.2) (record { given = tt; one_more = tt; log = log_stops g.L.Sink g.met.L.Sink.keeps_itself c.args.log.now })

pub returns-in_err-tell_step : goal.returns-in_err-tell_step
returns-in_err-tell_step g c =
    let fault = err_from_is_err_and c.from_residual-in_err-tell_step.result c.from_residual-in_err-tell_step.ensures.1 in
    rw (fault.1, fault.2) (record { given = tt; one_more = tt; log = c.in_err-tell_step.ensures.log })

pub returns-in_err-push : goal.returns-in_err-push
returns-in_err-push g c =
    let fault = err_from_is_err_and c.from_residual-in_err-push.result c.from_residual-in_err-push.ensures.1 in
    rw (fault.1, fault.2) (record { given = tt; one_more = tt; log = log_then g.L.Sink g.met.L.Sink.keeps_on _ c.tell_step.new.log _ _ c.in_ok-tell_step.ensures.log (log_stops g.L.Sink g.met.L.Sink.keeps_itself c.tell_step.new.log) })
