use Rattle.std.proofs.Common.{sym, subst, []}
use Rattle.cx_base.specs.declared.constraint.Constraint.TheVariants as constraint
use Rattle.cdcl_search.proofs.Outcomes.{on_ok}
use Rattle.cdcl_core.specs.Filling.{IsNext}
use Rattle.cdcl_core.proofs.FilledClauses.{next_is_few, next_clause, next_filled, parity_passed, assumption_passed}
use Rattle.cdcl_core.proofs.filling.take_item.Goals as goal

pub take_clause-requires-clause-few : goal.take_clause-requires-clause-few
take_clause-requires-clause-few c = next_is_few c.args.formula.now c.args.place (constraint.Clause []) c.requires.place c.args.filled.now c.requires.filled c.requires.few c.in-Clause.lits.now (sym c.in-Clause.ensures.item)

pub take_clause-requires-clause-is_next : goal.take_clause-requires-clause-is_next
take_clause-requires-clause-is_next c = (
  c.args.formula.now,
  subst (IsNext c.args.formula.now c.args.filled.now) (sym c.deref.ensures.value)
      (next_clause c.args.formula.now c.args.place (constraint.Clause []) c.requires.place c.args.filled.now c.requires.filled c.in_ok-lits-in-Clause.lits.items c.in-Clause.lits.now (sym c.in-Clause.ensures.item)
      c.in_ok-lits-in-Clause.ensures.same c.in_ok-lits-in-Clause.ensures.once c.in-Clause.ensures.within),
)

pub returns-in_ok-lits-in-Clause : goal.returns-in_ok-lits-in-Clause
returns-in_ok-lits-in-Clause c =
    let is : IsNext c.args.formula.now c.args.filled.now c.deref.result.now = subst (IsNext c.args.formula.now c.args.filled.now) (sym c.deref.ensures.value)
    (next_clause c.args.formula.now c.args.place (constraint.Clause []) c.requires.place c.args.filled.now c.requires.filled c.in_ok-lits-in-Clause.lits.items c.in-Clause.lits.now (sym c.in-Clause.ensures.item)
    c.in_ok-lits-in-Clause.ensures.same c.in_ok-lits-in-Clause.ensures.once c.in-Clause.ensures.within) in
    on_ok _ c.take_clause.result c.take_clause.ensures
    (λ f. next_filled c.args.formula.now c.args.place (constraint.Clause []) c.requires.place c.args.filled.now c.requires.filled c.in-Clause.lits.now (sym c.in-Clause.ensures.item) c.take_clause.new.filled (f c.args.formula.now is))

pub returns-in-Parity : goal.returns-in-Parity
returns-in-Parity c = parity_passed c.args.formula.now c.args.place (constraint.Clause []) c.requires.place c.args.filled.now c.requires.filled c.in-Parity.field-0.now (sym c.in-Parity.ensures.item)

pub returns-in-Assume : goal.returns-in-Assume
returns-in-Assume c = assumption_passed c.args.formula.now c.args.place (constraint.Clause []) c.requires.place c.args.filled.now c.requires.filled c.in-Assume.field-0.now (sym c.in-Assume.ensures.item)
