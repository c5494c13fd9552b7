use Rattle.std.proofs.Common.{sym, subst, ◌≡◌}
use Rattle.fratx_elab.specs.Names.{IsProofId}
use Rattle.fratx_elab.specs.OwnIds.{each_itself}
use Rattle.fratx_elab.proofs.OwnLaws.{put_twice, put_apart, one_more_id, each_itself-insert}
use Rattle.fratx_elab.proofs.own_ids.OwnIds.put.Goals.{in_default-via-in-Some-2+else-not-is_own, in_default-via-in-None+else-not-is_own-2}
use Rattle.fratx_elab.proofs.own_ids.OwnIds.put.Goals as goal

pub returns-in-Some-clause-put : goal.returns-in-Some-clause-put
returns-in-Some-clause-put c e = rw (← c.self.view_is, c.in-Some.is, ← c.if-other-id.true) (sym (put_twice (each_itself c.self.inside.ids) c.in-Some.other.id c.in-Some.other.number c.args.number))

pub invariant_of-self-in-Continue-1 : goal.invariant_of-self-in-Continue-1
invariant_of-self-in-Continue-1 c =
    let own : c.number.result ≡ c.args.id = elim c.in_default.branch [
      | in_default-via-in-Some-2+else-not-is_own w ↦ w.if-not-is_own.false
      | in_default-via-in-None+else-not-is_own-2 w ↦ w.if-not-is_own-2.false
    ] in
    let is = subst IsProofId own (c.number.ensures.low, c.number.ensures.high) in
    rw c.in_ok-insert-in_default.ensures.ok (one_more_id c.self.inside.ids c.args.id _ c.self.invariant is)

pub returns-in_ok-insert-in_default-clause-put : goal.returns-in_ok-insert-in_default-clause-put
returns-in_ok-insert-in_default-clause-put c e = elim c.in_default.branch [
  | in_default-via-in-Some-2+else-not-is_own w ↦
      let other = w.in-Some.other in
      rw (← c.self.view_is, w.in-Some.is, c.in_ok-insert-in_default.ensures.ok, each_itself-insert, ← c.number.ensures.number, w.if-not-is_own.false)
      (sym (put_apart (each_itself c.self.inside.ids) other.id other.number c.args.id c.args.id (λ same. w.if-other-id.false (sym same))))
  | in_default-via-in-None+else-not-is_own-2 w ↦
      rw (← c.self.view_is, w.in-None.is, c.in_ok-insert-in_default.ensures.ok, each_itself-insert, ← c.number.ensures.number, w.if-not-is_own-2.false)
]
