use Rattle.std.proofs.Common.{◌≡◌, ◌∙◌, ap, ℕ, List}
use Rattle.cx_base.specs.Literals.{Literal}
use Rattle.proof_rules.proofs.LoopSteps.{map_more, map_ended}
use Rattle.proof_rules.proofs.content.fill_numbers.Goals as goal

pub loop-lit-preserved : goal.loop-lit-preserved
loop-lit-preserved c =
    let number = λ (l : Literal). l.variable in
    let lit = c.lit-item.result in
    let pushed : ◌≡◌ {A = List ℕ} _ _ = c.in_ok-push.ensures.items in
    pushed ∙ map_more number c.args.lits.now c.loop-lit.lit-index lit c.loop-lit.invariant c.loop-lit-test.true (c.number.ensures.number ∙ c.var.ensures ∙ ap number c.lit-item.is)

pub returns : goal.returns
returns c = map_ended (λ (l : Literal). l.variable) c.args.lits.now _ c.loop-lit.invariant c.loop-lit-test.false
