use Rattle.std.proofs.Common.{◌∙◌, ap, sym, not, nat_abs, get_or, pos, w64, rules}
use Rattle.std.proofs.lemmas.Int.{to_z-of_z}
use mir.Val.{SFits}
use Rattle.cx_semantics.specs.Tables.{is_live}
use Rattle.proof_rules.specs.Kinds.{chosen}
use Rattle.proof_rules.proofs.LoopSteps.{any_passed, any_ended}
use Rattle.proof_rules.proofs.hints.any_not_live.Goals as goal

pub loop-hint-preserved : goal.loop-hint-preserved
loop-hint-preserved c =
    let table = chosen c.args.kind c.args.live.now in
    let hints = c.args.hints.now in
    let here = get_or hints c.loop-hint.hint-index (pos 0) in
    let fits : SFits w64 here = search rules in
    let live = sym (c.has.ensures ∙ ap (is_live table) (c.id_of.ensures ∙ ap nat_abs (to_z-of_z w64 here fits))) ∙ c.if-not-has.false in
    any_passed (λ z. not (is_live table (nat_abs z))) hints _ (pos 0) c.loop-hint-test.true (ap not live) ∙ c.loop-hint.invariant

pub returns : goal.returns
returns c = any_ended (λ z. not (is_live (chosen c.args.kind c.args.live.now) (nat_abs z))) c.args.hints.now _ c.loop-hint-test.false ∙ c.loop-hint.invariant
