use Rattle.std.proofs.Common.{sym}
use Rattle.fratx_elab.specs.OwnIds.{each_itself}
use Rattle.fratx_elab.proofs.OwnLaws.{dropped, dropped_apart, one_less_id, each_itself-remove}
use Rattle.fratx_elab.proofs.own_ids.OwnIds.remove.Goals.{in-Some+then-other-id, in-Some+else-other-id, in_default}
use Rattle.fratx_elab.proofs.own_ids.OwnIds.remove.Goals as goal

pub invariant_of-self : goal.invariant_of-self
invariant_of-self c = rw c.remove.ensures (elim c.match-self.branch [
  | in-Some+then-other-id w ↦ rw w.self-inside-is (one_less_id c.self.inside.ids c.args.id c.self.invariant)
  | in-Some+else-other-id w ↦ rw w.self-inside-is (one_less_id c.self.inside.ids c.args.id c.self.invariant)
  | in_default w ↦ rw w.self-inside-is (one_less_id c.self.inside.ids c.args.id c.self.invariant)
])

pub returns : goal.returns
returns c = elim c.match-self.branch [
  | in-Some+then-other-id w ↦
      rw (← c.self.view_is, c.remove.ensures, w.self-inside-is, w.in-Some.is, ← w.if-other-id.true, each_itself-remove) (sym (dropped (each_itself c.self.inside.ids) w.in-Some.other.id w.in-Some.other.number))
  | in-Some+else-other-id w ↦
      rw (← c.self.view_is, c.remove.ensures, w.self-inside-is, w.in-Some.is, each_itself-remove) (sym (dropped_apart (each_itself c.self.inside.ids) w.in-Some.other.id w.in-Some.other.number c.args.id (λ e. w.if-other-id.false (sym e))))
  | in_default w ↦ rw (← c.self.view_is, c.remove.ensures, w.self-inside-is, w.in_default.is, each_itself-remove)
]
