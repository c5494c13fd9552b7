use Rattle.std.proofs.Common.{List, ◌≡◌, ◌+◌, ◌-◌, ◌∙◌, ◌++◌, ◌∷◌, [], suc, sym, subst, ap, arith, get_or, take}
use Rattle.std.specs.List.{AllByRecursion}
use Rattle.std.proofs.Math.Seq.{take-suc}
use Rattle.std.proofs.lemmas.Option.{get_or_from_slice_get}
use Rattle.cx_base.specs.Literals.{Literal}
use Rattle.cx_base.specs.Problem.{AreWithin, parities_of}
use Rattle.cx_base.proofs.Elements.{all_push}
use Rattle.gf2_space.proofs.making.parities.Goals as goal

pub loop-number-preserved : goal.loop-number-preserved
loop-number-preserved c =
    let all : List (List Literal) = parities_of c.args.formula.now.constraints in
    let n = c.loop-number.number in
    let old = c.loop-number.parities.items in
    let lits : List Literal = c.parity.result.now in
    let test = c.loop-number-test.true in
    let count = c.parity_count-number-end.ensures in
    let back : n + 1 - 1 ≡ n = omega arith in
    let next : suc n ≡ n + 1 = omega arith in
    let here : lits ≡ get_or all n [] = sym (ap (λ i. get_or all i []) (sym back) ∙ get_or_from_slice_get all (n + 1 - 1) lits [] c.parity.ensures.parity) in
    let pushed : c.push.new.self.items ≡ old ++ lits ∷ [] = c.in_ok-push.ensures.items ∙ ap (λ (l : List Literal). old ++ l ∷ []) c.in_ok-copy_of.ensures in (
      pushed ∙ (λ i. c.loop-number.invariant.0 i ++ here i ∷ []) ∙ sym (take-suc all n [] (omega arith)) ∙ ap (λ k. take k all) next,
      subst (λ (f : List (List Literal)). AllByRecursion (AreWithin c.args.formula.now.variables) f) (sym pushed)
          (all_push (AreWithin c.args.formula.now.variables) old lits c.loop-number.invariant.1 c.parity.ensures.within),
    )
