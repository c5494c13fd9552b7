use Rattle.std.proofs.Common.{◌≡◌, ◌<◌, ◌∙◌, length, get_or, take, arith, subst, sym}
use Rattle.std.proofs.lemmas.List.{length-take-le}
use Rattle.cx_base.specs.Literals.{negate}
use Rattle.cx_trail.specs.Sequence.{TrailState, IsFalseIn, entry_at}
use Rattle.cx_trail.proofs.FrontLaws.{sound_shown, false_place, place_read}
use Rattle.cx_trail.proofs.trail.Trail.place_of.Goals.{After-index}
use Rattle.cx_trail.proofs.trail.Trail.place_of.Goals as goal

denied : (c : After-index) → IsFalseIn (take c.self.inside.count c.self.inside.cells.items) c.args.literal
denied c = subst (λ (t : TrailState). IsFalseIn t.entries c.args.literal) (sym c.self.view_is) c.requires

at : (c : After-index) → c.index.result.now ≡ get_or c.self.inside.places.items c.args.literal.variable 0
at c = place_read _ _ _ _ _ _ c.self.invariant _ _ _ c.index.ensures (c.number.ensures.number ∙ c.var.ensures) c.number.ensures.low (denied c)

pub returns-clause-within : goal.returns-clause-within
returns-clause-within c =
    let read = (goal.at.returns-clause-within c).After-index in
    let k = c.self.invariant in
    let n = length-take-le c.self.inside.count c.self.inside.cells.items (omega (arith, k.is_whole.short, k.room)) in
    subst (λ (t : TrailState). c.index.result.now < length t.entries) c.self.view_is (omega (arith, n, at read, (false_place _ _ _ _ _ _ k c.args.literal (denied read)).0))

pub returns-clause-negated : goal.returns-clause-negated
returns-clause-negated c =
    let read = (goal.at.returns-clause-negated c).After-index in
    subst (λ (t : TrailState). (entry_at t.entries c.index.result.now).literal ≡ negate c.args.literal) c.self.view_is
    (subst (λ x. (entry_at (take c.self.inside.count c.self.inside.cells.items) x).literal ≡ negate c.args.literal) (sym (at read)) (false_place _ _ _ _ _ _ c.self.invariant c.args.literal (denied read)).1)

pub returns-clause-sound : goal.returns-clause-sound
returns-clause-sound c = sound_shown _ _ _ _ _ _ c.self.invariant _ c.self.view_is
