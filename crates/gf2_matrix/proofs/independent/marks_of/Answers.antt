use Rattle.std.proofs.Common.{◌∙◌, sym, ap, subst, length, List}
use Rattle.std.proofs.lemmas.List.{with_items_is}
use Rattle.cx_base.specs.Literals.{Literal}
use Rattle.gf2_matrix.specs.Enough.{SayAll}
use Rattle.gf2_matrix.proofs.independent.marks_of.Goals as goal

pub returns : goal.returns
returns c =
    let d = c.reduce.new.self in
    let made = c.in_ok-matrix.ensures.made in
    let shape = c.reduce.ensures.shape in
    let new = c.mark_enough.new.marks in
    rw (with_items_is c.in_ok-marks.marks new (c.mark_enough.auto.marks ∙ ap length c.deref_mut.ensures.value ∙ sym c.in_ok-marks.marks.ok.0))
    (subst (λ n. SayAll n c.args.parities.now new) (shape.vars ∙ made.vars_are)
    (subst (λ (g : List (List Literal)). SayAll d.vars g new) (shape.given ∙ made.given_are) c.mark_enough.ensures))
