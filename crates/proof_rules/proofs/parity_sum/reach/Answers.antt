use Rattle.std.proofs.Common.{◌∙◌, ap, sym, subst, ◌+◌, ◌<◌, get_or, length, arith}
use Rattle.std.proofs.lemmas.List.{length_push}
use Rattle.std.proofs.lemmas.Result.{IfOk-from_err}
use Rattle.proof_rules.specs.declared.parity_sum.Mark.TheVariants.{Unmet}
use Rattle.proof_rules.proofs.LoopSteps.{get_or_padded}
use Rattle.proof_rules.proofs.parity_sum.reach.Goals as goal

pub loop-preserved : goal.loop-preserved
loop-preserved c =
    let marks = c.loop.marks.items in
    let pushed = c.in_ok-push.ensures.items in
    (λ p. ap (λ items. get_or items p Unmet) pushed ∙ get_or_padded marks Unmet p ∙ c.loop.invariant.0 p, ap length pushed ∙ length_push marks Unmet ∙ ap (λ n. n + 1) c.loop.invariant.1)

pub returns : goal.returns
returns c = record {
  same = c.loop.invariant.0;
  reached = subst (λ n. c.args.place < n) (sym c.loop.invariant.1) c.loop-test.false;
}

-- ---- where a mark more is the last one, and where there is no memory for it
pub returns-in_ok-push-clause-same : goal.returns-in_ok-push-clause-same
returns-in_ok-push-clause-same c = λ p. ap (λ items. get_or items p Unmet) c.in_ok-push.ensures.items ∙ get_or_padded c.loop.marks.items Unmet p ∙ c.loop.invariant.0 p

pub returns-in_ok-push-clause-reached : goal.returns-in_ok-push-clause-reached
returns-in_ok-push-clause-reached c =
    let longer = ap length c.in_ok-push.ensures.items ∙ length_push c.loop.marks.items Unmet ∙ ap (λ n. n + 1) c.loop.invariant.1 in
    subst (λ n. c.args.place < n) (sym longer) (omega arith)

pub returns-in_err-push-clause-same : goal.returns-in_err-push-clause-same
returns-in_err-push-clause-same c = λ p. ap (λ items. get_or items p Unmet) c.in_err-push.ensures.items ∙ c.loop.invariant.0 p

pub returns-in_err-push-clause-reached : goal.returns-in_err-push-clause-reached
returns-in_err-push-clause-reached c = IfOk-from_err _ _ c.from_residual.ensures.0
