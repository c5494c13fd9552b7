use Rattle.std.proofs.Common.{sym, subst, ◌+◌, take, arith}
use Rattle.std.proofs.lemmas.List.{take_all}
use Rattle.std.specs.List.{Contains}
use Rattle.clause_tidy.specs.Looks.{HasWholesOf}
use Rattle.clause_tidy.proofs.Literals.{not_both}
use Rattle.clause_tidy.proofs.LookLaws.{found_more, found_past, all_among}
use Rattle.clause_tidy.proofs.look.Look.find_in.Goals.{then-may_find+in_ok-push, else-may_find}
use Rattle.clause_tidy.proofs.look.Look.find_in.Goals as goal

pub loop-clause-preserved : goal.loop-clause-preserved
loop-clause-preserved c =
    let a = c.args.arena.now in
    let p = c.args.self.now.part in
    let list = c.args.list.now in
    let i = c.loop-clause.clause-index in
    let r = c.clause-item.result in
    let found = c.loop-clause.found.items in
    elim c.if-may_find.branch [
      | then-may_find+in_ok-push w ↦ subst (λ v. HasWholesOf a p (Contains (take (i + 1) list)) v.items) (sym w.found-is)
          (found_more a p list i r c.loop-clause-test.true c.clause-item.is found c.loop-clause.invariant w.push.new.self.items w.in_ok-push.ensures.items)
      | else-may_find w ↦ subst (λ v. HasWholesOf a p (Contains (take (i + 1) list)) v.items) (sym w.found-is)
          (found_past a p list i r c.loop-clause-test.true c.clause-item.is found c.loop-clause.invariant (λ live bears. not_both _ (c.may_find.ensures live bears) w.if-may_find.false))
    ]

pub returns : goal.returns
returns c =
    let list = c.args.list.now in
    let i = c.loop-clause.clause-index in
    all_among c.args.arena.now c.args.self.now.part list c.loop-clause.found.items i (take_all i list (omega (arith, c.loop-clause-test.false))) c.loop-clause.invariant
