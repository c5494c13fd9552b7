use Rattle.std.proofs.Common.{◌≡◌, ◌∙◌, ap, sym, subst, List, true, length, arith}
use Rattle.std.proofs.lemmas.List.{take_all, take-map, length_push}
use Rattle.cx_base.specs.Literals.{Literal, negate}
use Rattle.cx_semantics.specs.Chain.{has_literal, is_inside, negations}
use Rattle.proof_rules.proofs.LiteralLaws.{at_err, first_inside}
use Rattle.proof_rules.proofs.LoopSteps.{map_more}
use Rattle.proof_rules.proofs.literal_set.LiteralSet.set_to_negations.Goals as goal

pub returns-in_err-put-clause-err : goal.returns-in_err-put-clause-err
returns-in_err-put-clause-err c =
    let lits = c.args.lits.now in
    let n = c.loop-lit.lit-index in
    at_err c.from_residual-in_err-put.result (is_inside c.put.new.lits.items (negations lits) ≡ true)
    (subst (λ (ls : List Literal). is_inside ls (negations lits) ≡ true) (take-map negate n lits ∙ sym (c.in_err-put.ensures.err ∙ c.loop-lit.invariant.so_far)) (first_inside (negations lits) n))

pub returns-clause-ok : goal.returns-clause-ok
returns-clause-ok c l = ap (λ (ls : List Literal). has_literal ls l) (c.loop-lit.invariant.so_far ∙ ap negations (take_all c.loop-lit.lit-index c.args.lits.now c.loop-lit-test.false))

pub loop-lit-preserved : goal.loop-lit-preserved
loop-lit-preserved c =
    let longer = ap length c.in_ok-put.ensures.ok ∙ length_push c.loop-lit.self-inside.lits.items c.negate.result in
    record {
      marked = c.put.ensures.marked;
      so_far = c.in_ok-put.ensures.ok ∙ map_more negate c.args.lits.now c.loop-lit.lit-index _ c.loop-lit.invariant.so_far c.loop-lit-test.true (c.negate.ensures ∙ ap negate c.lit-item.is);
      room = omega (arith, longer, c.put.ensures.room);
    }
