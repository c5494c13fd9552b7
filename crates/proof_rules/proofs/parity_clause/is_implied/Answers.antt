use Rattle.std.proofs.Common.{◌∙◌, ap, sym, subst}
use Rattle.cx_base.specs.Parity.{NormalForm}
use Rattle.proof_rules.specs.Assignments.{Lists, forced_sum}
use Rattle.proof_rules.proofs.ClauseValues.{always_met, decided_by_sum, refused_by_free}
use Rattle.proof_rules.proofs.parity_clause.is_implied.Goals as goal

pub returns-then-has_opposite : goal.returns-then-has_opposite
returns-then-has_opposite c = λ v h. always_met c.set_to.new.self c.args.clause.now c.in_ok-set_to.ensures.same (sym c.has_opposite.ensures ∙ c.if-has_opposite.true) v

pub returns-in-Some : goal.returns-in-Some
returns-in-Some c =
    let xs = c.variables.new.list.items in
    let form = c.in_ok-set_to-2.ensures in
    let P : NormalForm → Type 0 = λ p. Lists p.variables xs in
    let lists = subst P form c.in_ok-variables.ensures in
    let none = sym c.has_opposite.ensures ∙ c.if-has_opposite.false in
    let forced = ap (forced_sum c.set_to.new.self) (sym c.deref.ensures.value) ∙ sym c.sum_outside.ensures ∙ c.in-Some.is in
    decided_by_sum c.set_to.new.self c.args.clause.now c.args.parity.now xs c.in_ok-set_to.ensures.same c.in_ok-set_to.ensures.positive lists none c.in-Some.outside c.right_side.result forced
    (ap (λ p. p.right_side) (sym form) ∙ sym c.right_side.ensures)

pub returns-in-None : goal.returns-in-None
returns-in-None c =
    let xs = c.variables.new.list.items in
    let P : NormalForm → Type 0 = λ p. Lists p.variables xs in
    let lists = subst P c.in_ok-set_to-2.ensures c.in_ok-variables.ensures in
    let none = sym c.has_opposite.ensures ∙ c.if-has_opposite.false in
    let free = ap (forced_sum c.set_to.new.self) (sym c.deref.ensures.value) ∙ sym c.sum_outside.ensures ∙ c.in-None.is in
    refused_by_free c.set_to.new.self c.args.clause.now c.args.parity.now xs c.in_ok-set_to.ensures.same c.in_ok-set_to.ensures.positive lists none free
