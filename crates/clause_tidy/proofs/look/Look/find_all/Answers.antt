use Rattle.std.proofs.Common.{sym, subst, ◌+◌, ◌<◌, arith}
use Rattle.clause_tidy.specs.Looks.{HasWholesOf}
use Rattle.clause_tidy.proofs.Literals.{not_both}
use Rattle.clause_tidy.proofs.LookLaws.{reached_more, reached_past, all_reached}
use Rattle.clause_tidy.proofs.look.Look.find_all.Goals.{then-may_find+in_ok-push, else-may_find}
use Rattle.clause_tidy.proofs.look.Look.find_all.Goals as goal

pub loop-place-init : goal.loop-place-init
loop-place-init c = λ q low live bears. absurd (omega (arith, low))

pub loop-place-preserved : goal.loop-place-preserved
loop-place-preserved c =
    let a = c.args.arena.now in
    let p = c.args.self.now.part in
    let i = c.loop-place.place in
    let r = c.new-clause.result in
    let found = c.loop-place.found.items in
    elim c.if-may_find.branch [
      | then-may_find+in_ok-push w ↦ subst (λ v. HasWholesOf a p (λ q. q < i + 1) v.items) (sym w.found-is)
          (reached_more a p i r c.new-clause.ensures found c.loop-place.invariant w.push.new.self.items w.in_ok-push.ensures.items)
      | else-may_find w ↦ subst (λ v. HasWholesOf a p (λ q. q < i + 1) v.items) (sym w.found-is)
          (reached_past a p i r c.new-clause.ensures found c.loop-place.invariant (λ live bears. not_both _ (c.may_find.ensures live bears) w.if-may_find.false))
    ]

pub returns : goal.returns
returns c =
    let p = c.args.self.now.part in
    let long = c.len-place-end.ensures.len in
    let past = c.loop-place-test.false in
    all_reached c.args.arena.now p 0 c.loop-place.place c.loop-place.found.items (omega (arith, long, past)) c.loop-place.invariant
