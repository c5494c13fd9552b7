use Rattle.std.proofs.Common.{sym, ap, ◌∙◌, [], ◌∷◌, ◌++◌, take}
use Rattle.cx_base.specs.Problem.{parities_of}
use Rattle.cx_base.specs.declared.constraint.Constraint.TheVariants as constraint
use Rattle.cdcl_core.proofs.OriginalLaws.{clause_passes, assumption_passes, parity_comes}
use Rattle.cdcl_core.proofs.recovering.add_parity.Goals as goal

pub returns-in-Clause : goal.returns-in-Clause
returns-in-Clause c = c.requires.before ∙ sym (clause_passes c.args.formula.now.constraints c.args.place (constraint.Clause []) c.in-Clause.field-0.now c.requires.place (sym c.in-Clause.ensures.item))

pub returns-in-Assume : goal.returns-in-Assume
returns-in-Assume c = c.requires.before ∙ sym (assumption_passes c.args.formula.now.constraints c.args.place (constraint.Clause []) c.in-Assume.field-0.now c.requires.place (sym c.in-Assume.ensures.item))

pub returns-in_ok-push-in-Parity : goal.returns-in_ok-push-in-Parity
returns-in_ok-push-in-Parity c =
    c.in_ok-push-in-Parity.ensures.items
    ∙ ap (λ xs. xs ++ c.in_ok-copy_of-in-Parity.field-0 ∷ []) c.requires.before
    ∙ ap (λ x. parities_of (take c.args.place c.args.formula.now.constraints) ++ x ∷ []) c.in_ok-copy_of-in-Parity.ensures
    ∙ sym (parity_comes c.args.formula.now.constraints c.args.place (constraint.Clause []) c.in-Parity.lits.now c.requires.place (sym c.in-Parity.ensures.item))
