use Rattle.std.proofs.Common.{◌≡◌, ◌≤◌, ◌<◌, ◌∙◌, length, take, ap, arith, subst, sym}
use Rattle.std.proofs.lemmas.List.{get_or_read}
use Rattle.cx_base.specs.Literals.{code_of}
use Rattle.cx_base.proofs.LiteralLaws.{variable_from_code, code_below}
use Rattle.cx_trail.specs.declared.entry.Truth.{Truth}
use Rattle.cx_trail.specs.declared.entry.Truth.TheVariants.{Open}
use Rattle.cx_trail.specs.Sequence.{TrailState, Means}
use Rattle.cx_trail.specs.Cells.{truth_at}
use Rattle.cx_trail.proofs.FrontLaws.{sound_shown, front_means}
use Rattle.cx_trail.proofs.trail.Trail.truth.Goals as goal

pub returns-clause-means : goal.returns-clause-means
returns-clause-means c =
    let k = c.self.invariant in
    let l = c.args.literal in
    let truths = c.self.inside.truths.items in
    let high : l.variable ≤ c.self.inside.vars = subst (λ (t : TrailState). l.variable ≤ t.variables) (sym c.self.view_is) c.requires in
    let low : 1 ≤ l.variable = variable_from_code l (subst (λ n. 2 ≤ n) c.code.ensures.code c.code.ensures.low) in
    let inside : c.code.result < length truths = omega (arith, c.code.ensures.code, k.is_whole.valued.size, code_below l c.self.inside.vars high) in
    let is : c.index.result.now ≡ truth_at truths (code_of l) = get_or_read truths _ _ inside c.index.ensures Open ∙ ap (truth_at truths) c.code.ensures.code in
    subst (λ (t : TrailState). Means t.entries l c.index.result.now) c.self.view_is
    (subst (λ (x : Truth). Means (take c.self.inside.count c.self.inside.cells.items) l x) (sym is) (front_means _ _ _ _ _ _ k l low high))

pub returns-clause-sound : goal.returns-clause-sound
returns-clause-sound c = sound_shown _ _ _ _ _ _ c.self.invariant _ c.self.view_is
