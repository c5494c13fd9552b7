use Rattle.std.proofs.Common.{◌≡◌, refl, sym, ap, ◌∙◌, subst, ℕ, suc, ◌-◌, ◌<◌, pos, List, [], ◌∷◌, ◌++◌, length, get_or, drop, drop-cons, arith}
use Rattle.cx_base.specs.Numbers.{AreStepIntegers}
use Rattle.conflict_learn.specs.declared.learning.Resolved.{Resolved}
use Rattle.search_steps.specs.Hints.{hints_from}
use Rattle.cdcl_core.proofs.LessonTexts.{hints_of_cons}
use Rattle.cdcl_core.proofs.learning.hints_of_resolved.Goals as goal

none_left : (xs : List Resolved) (n : ℕ) → n ≡ length xs → hints_from (drop n xs) ≡ []
none_left xs n is = ap (λ m. hints_from (drop m xs)) is ∙ ap hints_from (all xs)
  where
    all : (ys : List Resolved) → drop (length ys) ys ≡ []
    all [] = refl
    all (y ∷ ys) = all ys

one_more : (xs : List Resolved) (k n : ℕ) (x : Resolved) → suc k ≡ n → k < length xs → x ≡ get_or xs k x → hints_from (drop k xs) ≡ hints_from (drop n xs) ++ pos x.id ∷ []
one_more xs k n x is less at =
    let parts : drop k xs ≡ x ∷ drop n xs = drop-cons xs k x less ∙ ap (λ y. y ∷ drop (suc k) xs) (sym at) ∙ ap (λ m. x ∷ drop m xs) is in
    ap hints_from parts ∙ hints_of_cons x (drop n xs)

-- what is read at a place, whatever the default
read_again : (xs : List Resolved) (k : ℕ) (x : Resolved) → x ≡ get_or xs k x → get_or xs k (get_or xs k x) ≡ get_or xs k x
read_again xs k x at = ap (get_or xs k) (sym at)

pub loop-left-init : goal.loop-left-init
loop-left-init c = record {
  left = omega arith;
  hints = c.in_ok-hints.ensures.items ∙ sym (none_left c.args.resolved.now (length c.args.resolved.now) refl);
  integers = subst AreStepIntegers (sym c.in_ok-hints.ensures.items) tt;
}

pub push_hint-requires-clause-id : goal.push_hint-requires-clause-id
push_hint-requires-clause-id c =
    let within = c.loop-left.invariant.left in
    let more = c.loop-left-test.true in
    c.requires (get_or c.args.resolved.now (c.loop-left.left - 1) c.index-resolved-left.result)
    (c.loop-left.left - 1, omega (arith, within, more), read_again c.args.resolved.now (c.loop-left.left - 1) c.index-resolved-left.result c.index-resolved-left.is)

pub loop-left-preserved : goal.loop-left-preserved
loop-left-preserved c =
    let within = c.loop-left.invariant.left in
    let more = c.loop-left-test.true in
    let resolved = c.args.resolved.now in
    let k = c.loop-left.left - 1 in
    let x = get_or resolved k c.index-resolved-left.result in
    record {
      left = omega (arith, within);
      hints = c.in_ok-push_hint.ensures.pushed ∙ ap (λ zs. zs ++ pos x.id ∷ []) c.loop-left.invariant.hints
          ∙ sym (one_more resolved k c.loop-left.left x (omega (arith, more)) (omega (arith, within, more)) (sym (read_again resolved k c.index-resolved-left.result c.index-resolved-left.is)));
      integers = c.in_ok-push_hint.ensures.integers;
    }

pub returns-clause-hints : goal.returns-clause-hints
returns-clause-hints c =
    let none : c.loop-left.left ≡ 0 = let done = c.loop-left-test.false in omega (arith, done) in
    c.loop-left.invariant.hints ∙ ap (λ n. hints_from (drop n c.args.resolved.now)) none
