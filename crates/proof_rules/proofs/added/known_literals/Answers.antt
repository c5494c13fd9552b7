use Rattle.std.proofs.Common.{◌≡◌, ◌≤◌, ◌∙◌, sym, ap, subst, ℤ, pos, List, true, false, ◌||◌, take_all, get_or, nat_lt, nat_abs, w64, arith, rules}
use mir.Val.{SFits}
use Rattle.std.proofs.lemmas.Bool.{lt-ltb, le-ltb}
use Rattle.std.proofs.lemmas.Int.{to_z-of_z}
use Rattle.std.proofs.lemmas.List.Folds.{list_any_more, list_any_at}
use Rattle.std.specs.List.{list_any}
use Rattle.cx_base.specs.Integers.{literal, literals}
use Rattle.cx_base.specs.Numbers.{AreStepIntegers}
use Rattle.proof_rules.proofs.LoopSteps.{map_more}
use Rattle.proof_rules.proofs.StepIntegers.{proper_at}
use Rattle.proof_rules.proofs.added.known_literals.Goals as goal

pub literal_of-requires-clause-low : goal.literal_of-requires-clause-low
literal_of-requires-clause-low c =
    let zs = c.as_slice-integers.result.now in
    let here = get_or zs c.loop-integer.integer-index (pos 0) in
    let fits : SFits w64 here = search rules in
    let proper = subst AreStepIntegers (sym c.as_slice-integers.ensures.elements) c.as_slice-integers.ensures.proper in
    subst (λ z. 1 ≤ nat_abs z) (sym (to_z-of_z w64 here fits)) (proper_at zs c.loop-integer.integer-index (pos 0) proper c.loop-integer-test.true)

pub loop-integer-preserved : goal.loop-integer-preserved
loop-integer-preserved c =
    let zs = c.as_slice-integers.result.now in
    let i = c.loop-integer.integer-index in
    let here = get_or zs i (pos 0) in
    let fits : SFits w64 here = search rules in
    let size = c.unsigned_abs.ensures.value ∙ ap nat_abs (to_z-of_z w64 here fits) in
    let over = λ (z : ℤ). nat_lt c.args.vars (nat_abs z) in
    let known : over here ≡ false = le-ltb c.args.vars (nat_abs here) (omega arith) in
    record {
      known = list_any_more over zs i (pos 0) c.loop-integer-test.true ∙ ap (λ b. b || over here) c.loop-integer.invariant.known ∙ known;
      so_far = c.push_reserved.ensures.items ∙ map_more literal zs i (pos 0) c.loop-integer.invariant.so_far c.loop-integer-test.true (c.literal_of.ensures ∙ ap literal (to_z-of_z w64 here fits));
      room = omega arith;
    }

pub returns-then-from-unsigned_abs : goal.returns-then-from-unsigned_abs
returns-then-from-unsigned_abs c =
    let zs = c.as_slice-integers.result.now in
    let i = c.loop-integer.integer-index in
    let here = get_or zs i (pos 0) in
    let fits : SFits w64 here = search rules in
    let size = c.unsigned_abs.ensures.value ∙ ap nat_abs (to_z-of_z w64 here fits) in
    let over = λ (z : ℤ). nat_lt c.args.vars (nat_abs z) in
    let unknown : over here ≡ true = lt-ltb c.args.vars (nat_abs here) (omega arith) in
    subst (λ (xs : List ℤ). list_any over xs ≡ true) c.as_slice-integers.ensures.elements (list_any_at over zs i (pos 0) c.loop-integer-test.true unknown)

pub returns : goal.returns
returns c =
    let over = λ (z : ℤ). nat_lt c.args.vars (nat_abs z) in
    let all = take_all c.loop-integer.integer-index c.as_slice-integers.result.now c.loop-integer-test.false ∙ c.as_slice-integers.ensures.elements in
    (ap (list_any over) (sym all) ∙ c.loop-integer.invariant.known, c.from_vec.ensures ∙ c.loop-integer.invariant.so_far ∙ ap literals all)
