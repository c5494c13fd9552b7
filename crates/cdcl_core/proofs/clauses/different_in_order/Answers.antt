use Rattle.std.proofs.Common.{sym, ap, ◌∙◌, subst, ◌+◌, take}
use Rattle.std.proofs.lemmas.List.{take_all}
use Rattle.cx_semantics.specs.Chain.{has_literal}
use Rattle.cdcl_core.proofs.DifferentLiterals.{AreFound, same_found, found_more, found_already}
use Rattle.cdcl_core.proofs.clauses.different_in_order.Goals.{then-not-has+in_ok-push, else-not-has}
use Rattle.cdcl_core.proofs.clauses.different_in_order.Goals as goal

pub loop-lit-preserved : goal.loop-lit-preserved
loop-lit-preserved c = elim c.if-not-has.branch [
  | then-not-has+in_ok-push w ↦
      let absent = sym (c.has.ensures ∙ ap (λ xs. has_literal xs c.lit-item.result) c.deref.ensures.value) ∙ w.if-not-has.true in
      subst (λ v. AreFound (take (c.loop-lit.lit-index + 1) c.args.lits.now) v.items) (sym w.found-is)
      (found_more c.args.lits.now c.loop-lit.found.items c.loop-lit.lit-index c.lit-item.result c.loop-lit-test.true c.lit-item.is c.loop-lit.invariant absent w.push.new.self.items w.in_ok-push.ensures.items)
  | else-not-has w ↦
      let present = sym (c.has.ensures ∙ ap (λ xs. has_literal xs c.lit-item.result) c.deref.ensures.value) ∙ w.if-not-has.false in
      subst (λ v. AreFound (take (c.loop-lit.lit-index + 1) c.args.lits.now) v.items) (sym w.found-is)
      (found_already c.args.lits.now c.loop-lit.found.items c.loop-lit.lit-index c.lit-item.result c.loop-lit-test.true c.lit-item.is c.loop-lit.invariant present)
]

pub returns-clause-same : goal.returns-clause-same
returns-clause-same c = same_found c.args.lits.now c.loop-lit.found.items
    (subst (λ xs. AreFound xs c.loop-lit.found.items) (take_all c.loop-lit.lit-index c.args.lits.now c.loop-lit-test.false) c.loop-lit.invariant)
