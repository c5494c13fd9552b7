use Rattle.std.proofs.Common.{◌<◌, ◌∙◌, ℕ, List, length, sym, ap, subst, arith}
use Rattle.std.specs.List.{AllByRecursion}
use Rattle.std.proofs.lemmas.Result.{IfOk-weaker}
use Rattle.cx_base.specs.Literals.{Literal}
use Rattle.cx_base.specs.Problem.{AreWithin}
use Rattle.parity_engine.specs.Equations.{numbered}
use Rattle.parity_engine.specs.Written.{AreRising}
use Rattle.gf2_matrix.specs.Content.{Content}
use Rattle.gf2_matrix.specs.Enough.{SayFirst}
use Rattle.gf2_matrix.specs.Made.{IsMadeOf}
use Rattle.gf2_matrix.proofs.Choosing.{within_numbered}
use Rattle.gf2_matrix.proofs.Steps.{below}
use Rattle.gf2_matrix.proofs.matrix.Matrix.make_of_independent.Goals as goal
use Rattle.gf2_matrix.proofs.matrix.Matrix.make_of_independent.Goals.{Else-lists}

within : (c : Else-lists) → AllByRecursion (AreWithin c.args.vars) c.as_slice-lists.result.now
within c = subst (AllByRecursion (AreWithin c.args.vars)) (sym c.as_slice-lists.ensures) c.requires.within

few : (c : Else-lists) → length c.as_slice-lists.result.now < 4294967296
few c = below c.if-lists.false

few_parities : (c : Else-lists) → length c.args.parities.now < 4294967296
few_parities c = subst (λ (ls : List (List Literal)). length ls < 4294967296) c.as_slice-lists.ensures (few c)

pub is_crowded-requires-clause-few : goal.is_crowded-requires-clause-few
is_crowded-requires-clause-few c = c.requires.few

pub is_crowded-requires-clause-within : goal.is_crowded-requires-clause-within
is_crowded-requires-clause-within c = within c

pub is_crowded-requires-clause-few_parities : goal.is_crowded-requires-clause-few_parities
is_crowded-requires-clause-few_parities c = few c

pub make-requires-clause-few : goal.make-requires-clause-few
make-requires-clause-few c = c.requires.few

pub make-requires-clause-within : goal.make-requires-clause-within
make-requires-clause-within c = c.requires.within

pub returns-then-not-branch-clause-over : goal.returns-then-not-branch-clause-over
returns-then-not-branch-clause-over c =
    IfOk-weaker _ _ _ (λ (m : Content) (made : IsMadeOf c.args.vars c.args.parities.now m). (made.vars_are, made.given_are)) c.make.ensures.made

pub returns-then-not-branch-clause-few_rows : goal.returns-then-not-branch-clause-few_rows
returns-then-not-branch-clause-few_rows c =
    let small = few_parities (goal.at.returns-then-not-branch-clause-few_rows c).Else-lists in
    IfOk-weaker _ _ _ (λ (m : Content) (made : IsMadeOf c.args.vars c.args.parities.now m). subst (λ n. n < 4294967296) (sym made.count) small) c.make.ensures.made

pub independent-requires-clause-few : goal.independent-requires-clause-few
independent-requires-clause-few c = c.requires.few

pub independent-requires-clause-within : goal.independent-requires-clause-within
independent-requires-clause-within c = within (goal.at.independent-requires-clause-within c).Else-lists

pub independent-requires-clause-few_parities : goal.independent-requires-clause-few_parities
independent-requires-clause-few_parities c = few (goal.at.independent-requires-clause-few_parities c).Else-lists

pub chosen_of-requires : goal.chosen_of-requires
chosen_of-requires c = subst (AreRising 1 (length c.as_slice-lists.result.now)) (sym c.deref.ensures.value) c.in_ok-numbers.ensures.rise

pub make-requires-2-clause-few : goal.make-requires-2-clause-few
make-requires-2-clause-few c = c.requires.few

pub make-requires-2-clause-within : goal.make-requires-2-clause-within
make-requires-2-clause-within c =
    let lists = c.as_slice-lists.result.now in
    rw (c.in_ok-chosen.ensures, c.deref.ensures.value)
    (within_numbered c.args.vars lists 1 c.in_ok-numbers.numbers.items (within (goal.at.make-requires-2-clause-within c).Else-lists) (omega arith) c.in_ok-numbers.ensures.rise)

pub extend_given-requires-clause-few_given : goal.extend_given-requires-clause-few_given
extend_given-requires-clause-few_given c =
    subst (λ (ls : List (List Literal)). length ls < 4294967296) (sym c.in_ok-given.ensures) (few (goal.at.extend_given-requires-clause-few_given c).Else-lists)

pub extend_given-requires-clause-within : goal.extend_given-requires-clause-within
extend_given-requires-clause-within c =
    subst (λ n. AllByRecursion (AreWithin n) c.in_ok-given.given) (sym c.in_ok-matrix.ensures.made.vars_are)
    (subst (AllByRecursion (AreWithin c.args.vars)) (sym c.in_ok-given.ensures) (within (goal.at.extend_given-requires-clause-within c).Else-lists))

pub extend_given-requires-clause-given : goal.extend_given-requires-clause-given
extend_given-requires-clause-given c =
    c.in_ok-matrix.ensures.made.given_are ∙ c.in_ok-chosen.ensures ∙ ap (numbered c.as_slice-lists.result.now) c.deref.ensures.value
    ∙ ap (λ (ls : List (List Literal)). numbered ls c.in_ok-numbers.numbers.items) (sym c.in_ok-given.ensures) ∙ ap (numbered c.in_ok-given.given) (sym c.deref-2.ensures.value)

pub extend_given-requires-clause-enough : goal.extend_given-requires-clause-enough
extend_given-requires-clause-enough c =
    let given = c.in_ok-given.given in
    subst (λ v. SayFirst v given c.deref-2.result.now (length given)) (sym c.in_ok-matrix.ensures.made.vars_are)
    (subst (λ (ns : List ℕ). SayFirst c.args.vars given ns (length given)) (sym c.deref-2.ensures.value)
    (subst (λ (ls : List (List Literal)). SayFirst c.args.vars ls c.in_ok-numbers.numbers.items (length ls)) (sym c.in_ok-given.ensures) c.in_ok-numbers.ensures))

pub returns-clause-of_given : goal.returns-clause-of_given
returns-clause-of_given c = c.extend_given.ensures.of_given

pub returns-clause-over : goal.returns-clause-over
returns-clause-over c =
    let over = c.extend_given.ensures.over in (over.0 ∙ c.in_ok-matrix.ensures.made.vars_are, over.1 ∙ c.in_ok-given.ensures ∙ c.as_slice-lists.ensures)
