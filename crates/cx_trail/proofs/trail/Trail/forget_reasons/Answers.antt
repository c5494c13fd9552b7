use Rattle.std.proofs.Common.{◌≤◌, length, List, map, ap, ◌∙◌, subst, arith}
use Rattle.cx_trail.specs.declared.entry.Entry.{Entry}
use Rattle.cx_trail.specs.Sequence.{TrailState, IsTrail}
use Rattle.cx_trail.specs.Forgetting.{forgotten}
use Rattle.cx_trail.proofs.FrontLaws.{front_mapped, front_sound}
use Rattle.cx_trail.proofs.MappedLaws.{mapped_front}
use Rattle.cx_trail.proofs.ReasonLaws.{forgotten_keeps}
use Rattle.cx_trail.proofs.ForgottenLaws.{all_forgotten}
use Rattle.cx_trail.proofs.trail.Trail.forget_reasons.Goals as goal

pub invariant_of-self : goal.invariant_of-self
invariant_of-self c = front_mapped _ _ _ c.self.inside.cells.items _ _ c.self.invariant forgotten forgotten_keeps _ c.forget_entries.ensures

pub returns-clause-forgotten : goal.returns-clause-forgotten
returns-clause-forgotten c =
    let k = c.self.invariant in
    let few : c.self.inside.count ≤ length c.self.inside.cells.items = omega (arith, k.is_whole.short, k.room) in
    ap (λ (es : List Entry). record { variables = c.self.inside.vars; level = c.self.inside.depth; entries = es }) (mapped_front forgotten c.self.inside.count c.self.inside.cells.items _ few c.forget_entries.ensures)
    ∙ ap (λ (t : TrailState). record { variables = t.variables; level = t.level; entries = map forgotten t.entries }) c.self.view_is

pub returns-clause-all : goal.returns-clause-all
returns-clause-all c = λ at_0.
    all_forgotten c.args.self.now _ (subst IsTrail c.self.view_is (front_sound _ _ _ _ _ _ c.self.invariant)) at_0 (ap (λ (t : TrailState). t.entries) (returns-clause-forgotten c))

pub returns-clause-sound : goal.returns-clause-sound
returns-clause-sound c = front_sound _ _ _ _ _ _ (invariant_of-self c)
