use Rattle.std.proofs.Common.{◌≡◌, ap, ◌∙◌, subst, ℕ, ◌≤◌, ◌++◌, ◌∷◌, [], max, sym}
use Rattle.cx_base.specs.Drafts.{Draft}
use Rattle.cx_base.specs.Places.{ArePlaces}
use Rattle.cx_base.specs.Assumed.{AreAssumed}
use Rattle.cx_base.specs.declared.literal.TheConstants.{MAX_VARIABLE}
use Rattle.cx_base.proofs.Drafting.{pushed, pushed_view}
use Rattle.cx_base.proofs.builder.FormulaBuilder.push.Goals as goal

pub invariant_of-self-2 : goal.invariant_of-self-2
invariant_of-self-2 c =
    let number : c.number-number.result ≡ c.args.lit.variable = c.number-number.ensures.number ∙ c.var.ensures in (
      pushed _ _ _ _ _ _ c.args.lit c.self.invariant.0
          (subst (λ (n : ℕ). 1 ≤ n) number c.number-number.ensures.low)
          (subst (λ (n : ℕ). n ≤ MAX_VARIABLE) number c.number-number.ensures.high)
          c.in_ok-push.ensures.items
          (c.max-self-inside.ensures ∙ ap (max c.self.inside.greatest) number),
      subst (ArePlaces c.self.inside.places.clauses.items c.self.inside.places.parities.items)
          (ap (λ (d : Draft). d.constraints) (sym (pushed_view _ _ _ _ _ c.args.lit c.self.invariant.0 c.in_ok-push.ensures.items))) c.self.invariant.1,
      subst (AreAssumed c.self.inside.assumed.marks.items)
          (ap (λ (d : Draft). d.constraints) (sym (pushed_view _ _ _ _ _ c.args.lit c.self.invariant.0 c.in_ok-push.ensures.items))) c.self.invariant.2,
    )

pub returns-clause-ok : goal.returns-clause-ok
returns-clause-ok c =
    pushed_view _ _ _ _ _ c.args.lit c.self.invariant.0 c.in_ok-push.ensures.items
    ∙ ap {B = Draft} (λ (d : Draft). record { constraints = d.constraints; unfinished = d.unfinished ++ c.args.lit ∷ [] }) c.self.view_is
