use Rattle.std.proofs.Common.{rules, sym, ◌∙◌}
use Rattle.fratx_elab.specs.OwnIds.{each_itself}
use Rattle.fratx_elab.proofs.OwnLaws.{got, got_apart}
use Rattle.fratx_elab.proofs.own_ids.OwnIds.get.Goals.{in_default-via-in-Some+else-other-id, in_default-via-in_default}
use Rattle.fratx_elab.proofs.own_ids.OwnIds.get.Goals as goal

pub returns-in-Some : goal.returns-in-Some
returns-in-Some c = rw (← c.self.view_is, c.in-Some.is, ← c.if-other-id.true) (sym (got (each_itself c.self.inside.ids) c.in-Some.other.id c.in-Some.other.number))

pub returns-in_default : goal.returns-in_default
returns-in_default c = elim c.in_default.branch [
  | in_default-via-in-Some+else-other-id w ↦
      let other = w.in-Some.other in
      rw (← c.self.view_is, w.in-Some.is) (c.own_number.ensures ∙ sym (got_apart (each_itself c.self.inside.ids) other.id other.number c.args.id (λ e. w.if-other-id.false (sym e))))
  | in_default-via-in_default w ↦ search rules
]
