use Rattle.std.proofs.Common.{◌≡◌, ◌∙◌, ap, ℕ, List}
use Rattle.cx_base.specs.Literals.{code_of}
use Rattle.proof_rules.proofs.LoopSteps.{map_more, map_ended}
use Rattle.proof_rules.proofs.content.fill_codes.Goals as goal

pub loop-lit-preserved : goal.loop-lit-preserved
loop-lit-preserved c =
    let lit = c.lit-item.result in
    let pushed : ◌≡◌ {A = List ℕ} _ _ = c.in_ok-push.ensures.items in
    pushed ∙ map_more code_of c.args.lits.now c.loop-lit.lit-index lit c.loop-lit.invariant c.loop-lit-test.true (c.code.ensures.code ∙ ap code_of c.lit-item.is)

pub returns : goal.returns
returns c = map_ended code_of c.args.lits.now _ c.loop-lit.invariant c.loop-lit-test.false
