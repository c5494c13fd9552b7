use Rattle.std.proofs.Common.{sym, subst, ◌∙◌, ◌+◌, true≢false, arith}
use Rattle.tidy_rules.proofs.PartLaws.{ListsBelow, below_more, below_past, below_all}
use Rattle.tidy_rules.proofs.parts.put_clauses.Goals.{then-is_live+in_ok-push, else-is_live}
use Rattle.tidy_rules.proofs.parts.put_clauses.Goals as goal

pub loop-place-preserved : goal.loop-place-preserved
loop-place-preserved c = elim c.if-is_live.branch [
  | then-is_live+in_ok-push w ↦
      subst (λ v. ListsBelow (c.loop-place.place + 1) c.args.arena.now v.items) (sym w.parts-is)
      (below_more c.loop-place.place c.args.arena.now c.new-reference.result c.loop-place.parts.items w.push.new.self.items c.new-reference.ensures (c.is_live.ensures.0 w.if-is_live.true) w.in_ok-push.ensures.items c.loop-place.invariant)
  | else-is_live w ↦
      subst (λ v. ListsBelow (c.loop-place.place + 1) c.args.arena.now v.items) (sym w.parts-is)
      (below_past c.loop-place.place c.args.arena.now c.new-reference.result c.loop-place.parts.items c.new-reference.ensures (λ l. true≢false (sym (c.is_live.ensures.1 l) ∙ w.if-is_live.false)) c.loop-place.invariant)
]

pub returns : goal.returns
returns c = below_all c.loop-place.place c.args.arena.now c.loop-place.parts.items (omega (arith, c.len-place-end.ensures.len, c.loop-place-test.false)) c.loop-place.invariant
