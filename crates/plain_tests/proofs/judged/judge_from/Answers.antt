use Rattle.std.proofs.Common.{◌≡◌, ◌+◌, ◌∙◌, sym, subst, false, get_or, arith, rules}
use Rattle.cx_base.specs.Assumptions.{clashes}
use Rattle.cx_base.specs.Endings.{finished}
use Rattle.cx_semantics.specs.declared.cause.Cause.{Cause}
use Rattle.cx_semantics.specs.Judging.{JudgedAs, refused}
use Rattle.cx_semantics.specs.LogRules.{log_rules, log_calculus}
use Rattle.proof_rules.specs.Judges.{IsRefusedBy}
use Rattle.plain_tests.proofs.JudgedLaws.{right_here, wrong_here, ended, runs_on}
use Rattle.plain_tests.proofs.judged.judge_from.Goals as goal

pub returns-in-Err-Wrong : goal.returns-in-Err-Wrong
returns-in-Err-Wrong c =
    let none = c.requires.no_clash in
    let is : c.index-steps-place.result ≡ get_or c.args.steps.now c.loop-place.place c.index-steps-place.result = search rules in
    subst (λ (x : Cause). JudgedAs (log_calculus c.args.formula.now) c.args.steps.now finished (refused (c.loop-place.place + 1) x)) (sym c.in-Err-Wrong.cause-is)
    (wrong_here c.args.formula.now c.args.steps.now c.loop-place.place c.index-steps-place.result c.loop-place.live c.in-Err-Wrong.cause none c.loop-place-test.true is c.loop-place.invariant (subst (IsRefusedBy (log_rules c.args.formula.now c.loop-place.live c.index-steps-place.result)) c.in-Err-Wrong.field-0-is c.in-Err-Wrong.ensures.judged))

pub returns-then-ends_log : goal.returns-then-ends_log
returns-then-ends_log c =
    let none = c.requires.no_clash in
    let is : c.index-steps-place.result ≡ get_or c.args.steps.now c.loop-place.place c.index-steps-place.result = search rules in
    right_here c.args.formula.now c.args.steps.now c.loop-place.place c.index-steps-place.result c.loop-place.live none c.loop-place-test.true is c.loop-place.invariant c.in-Ok.ensures.judged (sym c.ends_log.ensures ∙ c.if-ends_log.true)

pub loop-place-preserved : goal.loop-place-preserved
loop-place-preserved c =
    let is : c.index-steps-place.result ≡ get_or c.args.steps.now c.loop-place.place c.index-steps-place.result = search rules in
    runs_on c.args.formula.now c.args.steps.now c.loop-place.place c.index-steps-place.result c.loop-place.live c.take_step.new.live c.loop-place-test.true is c.loop-place.invariant c.in-Ok.ensures.judged (sym c.ends_log.ensures ∙ c.if-ends_log.false) c.in-Ok.ensures.taken

pub returns : goal.returns
returns c =
    let none = c.requires.no_clash in
    let past = c.loop-place-test.false in
    ended c.args.formula.now c.args.steps.now c.loop-place.place c.loop-place.live none (omega (arith, past)) c.loop-place.invariant
