use Rattle.std.proofs.Common.{sym, ap, ◌∙◌, inl, refl, true≢false}
use Rattle.cx_semantics.specs.Tables.{named}
use Rattle.proof_rules.specs.Sums.{plus_all}
use Rattle.proof_rules.proofs.SumLaws.{is_sum, sum_is_zero}
use Rattle.proof_rules.proofs.sum.judge_target.Goals as goal

pub returns-then-is_zero : goal.returns-then-is_zero
returns-then-is_zero c =
    let lists = named c.args.live.now.parities c.args.ids.now in
    let summed = c.in_ok-add_named.ensures ∙ ap (λ s. plus_all s lists) c.in_ok-set_to.ensures in
    (is_sum c.args.target.now lists (sym summed ∙ c.is_zero.ensures.0 c.if-is_zero.true), tt)

pub returns-else-is_zero : goal.returns-else-is_zero
returns-else-is_zero c =
    let lists = named c.args.live.now.parities c.args.ids.now in
    let summed = c.in_ok-add_named.ensures ∙ ap (λ s. plus_all s lists) c.in_ok-set_to.ensures in
    inl (λ h. true≢false (sym (c.is_zero.ensures.1 (summed ∙ sum_is_zero c.args.target.now lists h)) ∙ c.if-is_zero.false), refl)
