use Rattle.std.proofs.Common.{sym, ap, ◌∙◌, [], ◌++◌, append-nil, take}
use Rattle.cx_base.specs.Assumptions.{assumptions_of}
use Rattle.cx_base.specs.declared.constraint.Constraint.TheVariants as constraint
use Rattle.search_policy.proofs.AssumingLaws.{one_more_constraint}
use Rattle.search_policy.proofs.assumptions.add_assumed.Goals as goal

pub returns-in-Clause : goal.returns-in-Clause
returns-in-Clause c = c.requires.before ∙ sym (one_more_constraint c.args.formula.now.constraints c.args.place (constraint.Clause []) (constraint.Clause c.in-Clause.field-0.now) c.requires.place (sym c.in-Clause.ensures.item) ∙ append-nil (assumptions_of (take c.args.place c.args.formula.now.constraints)))

pub returns-in-Parity : goal.returns-in-Parity
returns-in-Parity c = c.requires.before ∙ sym (one_more_constraint c.args.formula.now.constraints c.args.place (constraint.Clause []) (constraint.Parity c.in-Parity.field-0.now) c.requires.place (sym c.in-Parity.ensures.item) ∙ append-nil (assumptions_of (take c.args.place c.args.formula.now.constraints)))

pub returns-in_ok-extend_from_slice-in-Assume : goal.returns-in_ok-extend_from_slice-in-Assume
returns-in_ok-extend_from_slice-in-Assume c = c.in_ok-extend_from_slice-in-Assume.ensures.items ∙ ap (λ xs. xs ++ c.in-Assume.more.now) c.requires.before
    ∙ sym (one_more_constraint c.args.formula.now.constraints c.args.place (constraint.Clause []) (constraint.Assume c.in-Assume.more.now) c.requires.place (sym c.in-Assume.ensures.item))
