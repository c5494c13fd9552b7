use Rattle.std.proofs.Common.{◌≡◌, ◌∙◌, ap, sym, Bool, true, false, not, refl, true≢false}
use Rattle.std.specs.FinSet as set
use Rattle.std.specs.List.{list_any}
use Rattle.proof_rules.specs.VariableMarks.{mark_at, is_odd}
use Rattle.proof_rules.proofs.VariableLaws.{none_left, none_odd, nothing_left}
use Rattle.proof_rules.proofs.parity_sum.ParitySum.is_zero.Goals as goal

turn : (b : Bool) → not b ≡ true → b ≡ false
turn true h = sym h
turn false h = refl

pub returns-then-not-any_left : goal.returns-then-not-any_left
returns-then-not-any_left c =
    let marks = c.self.inside.marks.items in
    let met = c.self.inside.met.items in
    let none : list_any (λ x. is_odd (mark_at marks x)) met ≡ false = (λ i. list_any (λ x. is_odd (mark_at (sym c.deref.ensures.value i) x)) (sym c.deref-2.ensures.value i)) ∙ sym c.any_left.ensures ∙ c.if-not-any_left.true in (
      λ h. sym c.self.view_is ∙ (λ i. record { variables = set.from_list (none_left (λ x. is_odd (mark_at marks x)) met none i); right_side = turn c.self.inside.right_side h i }),
      λ h. ap not (ap (λ p. p.right_side) (c.self.view_is ∙ h)),
    )

pub returns-else-not-any_left : goal.returns-else-not-any_left
returns-else-not-any_left c =
    let marks = c.self.inside.marks.items in
    let met = c.self.inside.met.items in (
      λ h. absurd (true≢false (sym h ∙ ap not c.if-not-any_left.false)),
      λ h.
          let none = none_odd (λ x. is_odd (mark_at marks x)) met (nothing_left marks met c.self.invariant (ap (λ p. p.variables) (c.self.view_is ∙ h))) in
          absurd (true≢false (sym c.if-not-any_left.false ∙ c.any_left.ensures ∙ (λ i. list_any (λ x. is_odd (mark_at (c.deref.ensures.value i) x)) (c.deref-2.ensures.value i)) ∙ none)),
    )
