use Rattle.std.proofs.Common.{◌<◌, length, subst, sym, ap, ◌∙◌, inl, inr, eqb-true, arith}
use Rattle.conflict_learn.specs.Marks.{is_marked}
use Rattle.conflict_learn.proofs.TouchLaws.{false_within}
use Rattle.conflict_learn.proofs.shortening.is_marked_or_fixed.Goals as goal

pub has-requires : goal.has-requires
has-requires c =
    let high = false_within c.args.trail.now c.vars-vars.ensures.sound c.args.literal c.requires.negated in
    subst (λ v. v < length c.args.marks.now) (sym c.var.ensures) (omega (arith, high, c.requires.wide))

pub returns-then-has : goal.returns-then-has
returns-then-has c h = inl (sym (c.has.ensures ∙ ap (is_marked c.args.marks.now) c.var.ensures) ∙ h)

pub returns-else-has : goal.returns-else-has
returns-else-has c h =
    let place = c.place_of.ensures in
    inr (c.place_of.result, place.within, place.negated, sym (ap (λ x. x.level) c.entry.ensures.is) ∙ eqb-true _ 0 h)
