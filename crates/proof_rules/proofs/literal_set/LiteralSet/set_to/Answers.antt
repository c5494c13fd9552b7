use Rattle.std.proofs.Common.{◌≡◌, ◌≤◌, ◌∙◌, ◌∷◌, ◌++◌, [], ap, sym, subst, List, true, length, take, arith}
use Rattle.std.proofs.lemmas.List.{take_all, take_more, length_push}
use Rattle.std.proofs.ByRecursion.{All-push}
use Rattle.cx_base.specs.Literals.{Literal}
use Rattle.cx_semantics.specs.Chain.{has_literal, is_inside}
use Rattle.proof_rules.specs.LiteralSets.{ArePositive}
use Rattle.proof_rules.proofs.LiteralLaws.{at_err, first_inside}
use Rattle.proof_rules.proofs.literal_set.LiteralSet.set_to.Goals as goal

pub returns-in_err-put-clause-err : goal.returns-in_err-put-clause-err
returns-in_err-put-clause-err c =
    let lits = c.args.lits.now in
    let n = c.loop-lit.lit-index in
    at_err c.from_residual-in_err-put.result (is_inside c.put.new.lits.items lits ≡ true)
    (subst (λ (ls : List Literal). is_inside ls lits ≡ true) (sym (c.in_err-put.ensures.err ∙ c.loop-lit.invariant.so_far)) (first_inside lits n))

pub returns-clause-same : goal.returns-clause-same
returns-clause-same c l = ap (λ (ls : List Literal). has_literal ls l) (c.loop-lit.invariant.so_far ∙ take_all c.loop-lit.lit-index c.args.lits.now c.loop-lit-test.false)

pub returns-clause-positive : goal.returns-clause-positive
returns-clause-positive c = subst ArePositive (take_all c.loop-lit.lit-index c.args.lits.now c.loop-lit-test.false) c.loop-lit.invariant.positive

pub loop-lit-preserved : goal.loop-lit-preserved
loop-lit-preserved c =
    let lits = c.args.lits.now in
    let n = c.loop-lit.lit-index in
    let lit = c.lit-item.result in
    let more = take_more lits n lit c.loop-lit-test.true in
    let longer = ap length c.in_ok-put.ensures.ok ∙ length_push c.loop-lit.self-inside.lits.items lit in
    let number = c.number-number.ensures.number ∙ c.var.ensures ∙ ap (λ (l : Literal). l.variable) c.lit-item.is in
    record {
      marked = c.put.ensures.marked;
      so_far = c.in_ok-put.ensures.ok ∙ ap (λ (ls : List Literal). ls ++ lit ∷ []) c.loop-lit.invariant.so_far ∙ ap (λ (l : Literal). take n lits ++ l ∷ []) c.lit-item.is ∙ sym more;
      positive = subst ArePositive (sym more) (All-push (λ l. 1 ≤ l.variable) (take n lits) _ c.loop-lit.invariant.positive (subst (λ m. 1 ≤ m) number c.number-number.ensures.low));
      room = omega (arith, longer, c.put.ensures.room);
    }
