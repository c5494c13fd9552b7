use Rattle.std.proofs.Common.{◌≤◌, length, List, map, ap, ◌∙◌, arith}
use Rattle.cx_trail.specs.declared.entry.Entry.{Entry}
use Rattle.cx_trail.specs.Sequence.{TrailState}
use Rattle.cx_trail.specs.Renaming.{renamed}
use Rattle.cx_trail.proofs.FrontLaws.{front_mapped, front_sound}
use Rattle.cx_trail.proofs.MappedLaws.{mapped_front}
use Rattle.cx_trail.proofs.ReasonLaws.{renamed_keeps}
use Rattle.cx_trail.proofs.trail.Trail.rename.Goals as goal

pub invariant_of-self : goal.invariant_of-self
invariant_of-self c = front_mapped _ _ _ c.self.inside.cells.items _ _ c.self.invariant (renamed c.args.moved.now) (renamed_keeps c.args.moved.now) _ c.rename_entries.ensures

pub returns-clause-renamed : goal.returns-clause-renamed
returns-clause-renamed c =
    let k = c.self.invariant in
    let few : c.self.inside.count ≤ length c.self.inside.cells.items = omega (arith, k.is_whole.short, k.room) in
    ap (λ (es : List Entry). record { variables = c.self.inside.vars; level = c.self.inside.depth; entries = es }) (mapped_front (renamed c.args.moved.now) c.self.inside.count c.self.inside.cells.items _ few c.rename_entries.ensures)
    ∙ ap (λ (t : TrailState). record { variables = t.variables; level = t.level; entries = map (renamed c.args.moved.now) t.entries }) c.self.view_is

pub returns-clause-sound : goal.returns-clause-sound
returns-clause-sound c = front_sound _ _ _ _ _ _ (invariant_of-self c)
