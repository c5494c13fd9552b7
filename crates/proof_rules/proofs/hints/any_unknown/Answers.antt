use Rattle.std.proofs.Common.{◌∙◌, ap, sym, not}
use Rattle.cx_semantics.specs.Tables.{is_live}
use Rattle.proof_rules.specs.Kinds.{chosen}
use Rattle.proof_rules.proofs.LoopSteps.{any_passed, any_ended}
use Rattle.proof_rules.proofs.hints.any_unknown.Goals as goal

pub loop-id-preserved : goal.loop-id-preserved
loop-id-preserved c = any_passed (λ n. not (is_live (chosen c.args.kind c.args.live.now) n)) c.args.ids.now _ 0 c.loop-id-test.true (ap not (sym c.has.ensures ∙ c.if-not-has.false)) ∙ c.loop-id.invariant

pub returns : goal.returns
returns c = any_ended (λ n. not (is_live (chosen c.args.kind c.args.live.now) n)) c.args.ids.now _ c.loop-id-test.false ∙ c.loop-id.invariant
