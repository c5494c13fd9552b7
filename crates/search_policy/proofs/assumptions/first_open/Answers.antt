use Rattle.std.proofs.Common.{◌≡◌, ◌⊎◌, sym, ap, ◌∙◌, subst, nat_eq, eqb-true, arith}
use Rattle.std.proofs.lemmas.Bool.{eqb-false}
use Rattle.cx_base.specs.Literals.{Literal}
use Rattle.cx_trail.specs.Sequence.{IsTrueIn, IsFalseIn}
use Rattle.search_policy.specs.Assuming.{literal_of}
use Rattle.search_policy.proofs.AssumingLaws.{by_cases, at_default}
use Rattle.search_policy.proofs.assumptions.first_open.Goals as goal

pub loop-place-preserved : goal.loop-place-preserved
loop-place-preserved c =
    let i = c.loop-place.invariant in
    let less = c.loop-place-test.true in
    let t = c.args.trail.now in
    let here : c.index-lits-place.result ≡ literal_of c.args.lits.now c.loop-place.place = c.index-lits-place.is ∙ at_default c.args.lits.now c.loop-place.place c.index-lits-place.result less in
    record {
      low = let low = i.low in omega (arith, low);
      high = omega (arith, less);
      before = λ k from below. by_cases (nat_eq k c.loop-place.place)
          (λ e. subst (λ (l : Literal). IsTrueIn t.entries l ⊎ IsFalseIn t.entries l) (here ∙ ap (literal_of c.args.lits.now) (sym (eqb-true k c.loop-place.place e))) (c.is_open.ensures.value c.if-is_open.false))
          (λ e. let other = eqb-false k c.loop-place.place e in i.before k from (omega (arith, below, other)));
    }
